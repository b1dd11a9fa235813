-- Text to table and back: NumberBack to LineReads for one line, TextBack, TextLoads, SoundPasses and SoundLoads for a whole table. The rest is for the code.
pub mod NumberBack
pub mod JoinLaws
pub mod LineBack
pub mod LineShort
pub mod TextBack
pub mod LineReads
pub mod TextLoads
pub mod SoundPasses
pub mod SoundLoads
pub mod Sizes
pub mod Writing
pub mod WritingMembers
pub mod Loops
pub mod WritingTypes
pub mod WritingTable
pub mod AssembledText
