-- The papers' numbers of the refusals: 1 to 13 of document 01, "Refusals", and 14 of document 02, point 5.
use Rattle.std.specs.Prelude.{ℕ}
use Rattle.objects.specs.declared.refusals.Reason.{Reason}
use Rattle.objects.specs.declared.refusals.Reason.TheVariants.{WorkShort, TextLong, Header, Form, Place, Room, Lacking, Forbidden, Clash, Containing, Question, SecondType, AnswerShort, PackageOrder}

abbrev pub reason_number : Reason → ℕ
reason_number WorkShort = 1
reason_number TextLong = 2
reason_number Header = 3
reason_number Form = 4
reason_number Place = 5
reason_number Room = 6
reason_number Lacking = 7
reason_number Forbidden = 8
reason_number Clash = 9
reason_number Containing = 10
reason_number Question = 11
reason_number SecondType = 12
reason_number AnswerShort = 13
reason_number PackageOrder = 14
