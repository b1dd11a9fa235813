-- Each case of the promise, met by an instance: its premise is shown of the two tables, and what is said follows from the promise and is not computed.
use mathlib.Core.Path.{◌≡◌, refl, ap, subst}
use mathlib.Core.Bool.{true, false}
use mathlib.Core.List.{[], cons≢nil}
use mathlib.Core.Logic.{◌⊎◌, inl, inr}
use mathlib.Core.Option.{some, none}
use Prim.Native.Nat.{ℕ, zero, suc, ◌≤◌}
use native.Mathlib.Omega.{arith}
use native.Mathlib.Decide.{dec_lt}
use Prim.Native.String.{String}
use Rattle.objects.specs.Lists.{In, flat}
use Rattle.objects.proofs.ListLaws.{clash, either}
use Rattle.objects.specs.declared.TypeKey.{TypeKey}
use Rattle.objects.specs.Table.{Table, Member, Method, type_key, package_key}
use Rattle.text.specs.Bytes.{ascii}
use Rattle.rules.specs.Members.{Identity, identity_from, identity_of}
use Rattle.rules.specs.Question.{ask_s, ask_n}
use Rattle.rules.specs.Ways.{Way, notfound, is_ambiguous, places_of, onward, walks, select}
use Rattle.rules.specs.Missing.{missing}
use Rattle.rules.specs.Rows.{called}
use Rattle.growth.specs.Grown.{Numbers, carry_member}
use Rattle.growth.specs.Promise.{ways_of, Shortest, carry_selected, Gives, new_way, PromiseS, Disturbed}
use Rattle.growth.specs.Incident.{alone, both, three, elsewhere, own}
use Rattle.growth.proofs.Promised.{grown}
use Rattle.growth.proofs.Disk.{line, writer, catalogue, numbers, disk-grown}
use Rattle.growth.proofs.Growths.{flushing, moved, elsewhere-grown, closing, from, own-grown, taping, three-grown}

-- a name that is asked for from package p
abbrev name : Table → ℕ → String → Identity
name T p s = identity_from T (some (package_key p)) (ascii s)

-- what comes of a name of the catalogue, type 5
abbrev Comes : Numbers → Table → String → Type 0
Comes n B s = PromiseS n writer B (type_key 5) true (some (package_key 0)) (ascii s)

-- one step leads from the catalogue to the block writer's `Close`
close-shortest : (t : TypeKey) → (t ≡ type_key 5) ⊎ (t ≡ type_key 6) → Shortest writer (name writer 0 "Close") t 1
unfolding called
close-shortest t (inl e) = rw e (record { some = λ z. cons≢nil z; none = λ j h. let z : j ≡ 0 = omega arith in rw z })
close-shortest t (inr e) = rw e (record { some = λ z. cons≢nil z; none = λ j h. let z : j ≡ 0 = omega arith in rw z })

-- a number of steps that is 0 or 1
up_to-one : (P : ℕ → Type 0) → P 0 → P 1 → (j : ℕ) → j ≤ 1 → P j
up_to-one P a b zero h = a
up_to-one P a b (suc zero) h = b
up_to-one P a b (suc (suc j)) h = absurd (omega arith)

-- ---- S

-- no new way is as short: the block writer's `Flush` and a package in front leave `Close` as it was
pub flush-same : select flushing (name flushing 1 "Close") (type_key 6) true ≡ carry_selected moved (select writer (name writer 0 "Close") (type_key 5) true)
unfolding called elsewhere-grown
flush-same = promised.same 1 (close-shortest (type_key 5) (inl refl)) (up_to-one (λ j. new_way moved writer flushing (name flushing 1 "Close") (type_key 5) j ≡ false) refl refl)
  where
    promised : Comes moved flushing "Close"
    promised = grown alone elsewhere elsewhere-grown (ask_s (type_key 5) true (some (package_key 0)) (ascii "Close")) refl

-- a new way is just as long: THE DISK INCIDENT, `Close` of the block writer and of the cartridge
pub disk-tied : is_ambiguous (select catalogue (name catalogue 0 "Close") (type_key 7) true) ≡ true
unfolding called disk-grown
disk-tied = promised.tied 1 (close-shortest (type_key 5) (inl refl)) (λ j h. let z : j ≡ 0 = omega arith in rw z) refl
  where
    promised : Comes numbers catalogue "Close"
    promised = grown alone both disk-grown (ask_s (type_key 5) true (some (package_key 0)) (ascii "Close")) refl

-- a new way is shorter: the catalogue's own `Close` is given, and the old way is not
pub own-overtakes : (w : Way) → In w (ways_of writer (name writer 0 "Close") (type_key 5) 1) → Gives (select closing (name closing 0 "Close") (type_key 5) true) (places_of w) → ⊥
unfolding called own-grown
own-overtakes = promised.overtaken 1 0 (close-shortest (type_key 5) (inl refl)) (omega arith) refl
  where
    promised : Comes (from 2) closing "Close"
    promised = grown alone own own-grown (ask_s (type_key 5) true (some (package_key 0)) (ascii "Close")) refl

-- `ambiguous` stays beside a third way just as long
pub tape-ambiguous : is_ambiguous (select taping (name taping 0 "Close") (type_key 7) true) ≡ true
unfolding called three-grown
tape-ambiguous =
    promised.still_ambiguous 1 (record { some = λ z. cons≢nil z; none = λ j h. let z : j ≡ 0 = omega arith in rw z }) (λ j h. let z : j ≡ 0 = omega arith in rw z) refl
  where
    promised : PromiseS (from 4) catalogue taping (type_key 7) true (some (package_key 0)) (ascii "Close")
    promised = grown both three three-grown (ask_s (type_key 7) true (some (package_key 0)) (ascii "Close")) refl

-- where no walk has two steps, none has more
no-walks : (T : Table) (t : TypeKey) → walks T t 2 ≡ [] → (k : ℕ) → walks T t (suc (suc k)) ≡ []
unfolding walks
no-walks T t h zero = h
no-walks T t h (suc k) = ap (flat (onward T)) (no-walks T t h k)

-- `notfound` stays: there is no way to `Open`, of any length
pub open-notfound : select flushing (name flushing 1 "Open") (type_key 6) true ≡ notfound
unfolding called elsewhere-grown
open-notfound = promised.still_notfound refl no-new
  where
    promised : Comes moved flushing "Open"
    promised = grown alone elsewhere elsewhere-grown (ask_s (type_key 5) true (some (package_key 0)) (ascii "Open")) refl

    no-new : (j : ℕ) → new_way moved writer flushing (name flushing 1 "Open") (type_key 5) j ≡ false
    no-new zero = refl
    no-new (suc zero) = refl
    no-new (suc (suc k)) = rw (no-walks flushing (type_key 6) refl k)

-- ---- N

-- `satisfied` stays: no new way to `Close` is as short as the old one
pub flush-satisfied : missing flushing (type_key 7) (type_key 8) true ≡ none
unfolding called elsewhere-grown
flush-satisfied = either (grown alone elsewhere elsewhere-grown (ask_n (type_key 6) (type_key 7) true) refl refl) (λ e. e) (λ d. absurd (quiet d.method (either d.concerned (λ e. e) (λ i. absurd i)) d.d d.shortest d.j d.as_short d.new))
  where
    -- the interface's one method
    close : Member
    close = line 2 "Close" 0 1 (Method false)

    quiet : (m : Member) → m ≡ close → (d : ℕ) → Shortest writer (identity_of writer m) (type_key 6) d → (j : ℕ) → j ≤ d → new_way moved writer flushing (identity_of flushing (carry_member moved m)) (type_key 6) j ≡ true → ⊥
    quiet m e d s j le new =
        elim (dec_lt 1 d) [
          | yes l ↦ cons≢nil (subst (λ (m : Member). ways_of writer (identity_of writer m) (type_key 6) 1 ≡ []) e (s.none 1 l))
          | no l ↦ clash (subst (λ (m : Member). new_way moved writer flushing (identity_of flushing (carry_member moved m)) (type_key 6) j ≡ true) e new)
              (up_to-one (λ j. new_way moved writer flushing (identity_of flushing (carry_member moved close)) (type_key 6) j ≡ false) refl refl j (omega arith))
        ]

-- it need not stay beside a new way just as long
pub disk-disturbs : Disturbed numbers writer catalogue (type_key 6) (type_key 7)
unfolding called
disk-disturbs = record { method = _; concerned = inl refl; d = 1; shortest = close-shortest (type_key 6) (inr refl); j = 1; as_short = omega arith; new = refl }
