-- The law on what pairs restore says something of records: worked histories in the first epoch, over one copy with one vote,
-- beside which disks stand, and what these restore.
use Rattle.std.proofs.Common.{◌≡◌, ℕ, zero, suc, ◌<◌, inl, inr, List, [], ◌∷◌, ◌++◌, reverse, refl, sym, ap, rules, arith}
use mathlib.Core.Bool.{true≢false}
use Rattle.std.specs.Prelude.{All}
use Rattle.std.proofs.lemmas.Bool.{cases_eq, ne_eqb}
use Rattle.std.proofs.lemmas.List.Elements.{All-nil}
use Rattle.qc_config.specs.Val.{Number}
use Rattle.qc_config.specs.declared.tuple.Op.TheVariants.{PutData}
use Rattle.qc_event.specs.declared.event.Answer.TheVariants as answer
use Rattle.qc_event.specs.declared.event.Cause.TheVariants as cause
use Rattle.qc_event.specs.declared.event.Event.TheVariants as event
use Rattle.qc_event.specs.declared.event.Grant.{Grant}
use Rattle.qc_event.specs.declared.event.Kind.TheVariants as kind
use Rattle.qc_event.specs.History.{Past, grants}
use Rattle.qc_event.specs.Legal.{Legal}
use Rattle.qc_event.specs.Seats.{number_in, top_name}
use Rattle.qc_event.proofs.Worked.{setting, tuple, client, start, commit, abort, get, put, write, ends}
use Rattle.qc_refine.specs.Listed.{logged}
use Rattle.qc_codec.specs.Ledger.{IsOld, epoch_in}
use Rattle.qc_codec.specs.declared.past.Logged.{Logged}
use Rattle.qc_refine.specs.Restored.{Kept, granted_at, restored}
use Rattle.qc_refine.specs.Standing.{AreNext, IsOfEpoch, StandBeside}

abbrev nothing : Kept
nothing = record { tops = []; granted = [] ∷ [] }

-- what the disks tell after a history, with these tops in excess
abbrev told : Past → List Logged → Kept
told past more = record { tops = logged past ++ more; granted = grants past 0 ∷ [] }

-- A TOP THAT IS READY

-- a top that wrote 5 and is ready
abbrev marked : Past
marked = reverse (write ++ client (event.Ready (top_name 1 1)) ∷ [])

abbrev this_top : Logged
this_top = record { top = top_name 1 1; aborted = [] }

legal_marked : Legal setting marked
legal_marked = search rules

next : AreNext marked (this_top ∷ [])
next = (record { number = number_in 1 1; is_top = refl; is_open = record { started = refl; not_ended = refl }; ready = refl; same_list = refl }, tt)

first_epoch : IsOfEpoch 1 marked
first_epoch number began = elim (cases_eq (number_in 1 1) number) [
  | inl same ↦ sym (ap epoch_in same)
  | inr differ ↦ absurd (true≢false (sym (rw (ne_eqb (number_in 1 1) number differ) at began)))
]

stand : StandBeside setting.base 1 setting nothing (told marked (this_top ∷ [])) marked
stand = record {
  starts = refl;
  old_tops = All-nil _;
  old_grants = λ copy there. one_copy copy there;
  of_epoch = first_epoch;
  more = this_top ∷ [];
  next = next;
  tops = refl;
  untold = λ copy. [];
  are_untold = λ copy there. All-nil _;
  granted = λ copy there. same_grants copy there;
}
  where
    one_copy : (copy : ℕ) → copy < 1 → All (λ (g : Grant). IsOld 1 g.access) (granted_at nothing copy)
    one_copy zero there = All-nil _
    one_copy (suc copy) there = absurd (omega arith)

    same_grants : (copy : ℕ) → copy < 1 → granted_at (told marked (this_top ∷ [])) copy ≡ granted_at nothing copy ++ (grants marked copy ++ [])
    same_grants zero there = refl
    same_grants (suc copy) there = absurd (omega arith)

-- with its record its write is restored, though the history does not tell its commit
with_record : restored setting.base 1 (told marked (this_top ∷ [])) ≡ (tuple 1 5 ∷ []) ∷ []
with_record = refl

-- and without it is not
without_record : restored setting.base 1 (told marked []) ≡ (tuple 0 0 ∷ []) ∷ []
without_record = refl

-- A CHILD THAT WAS ABORTED

-- a top whose child wrote 5 and was aborted, and which commits
abbrev undone : Past
undone = reverse (
    start (top_name 1 1) (kind.User 0 0)
    ∷ start (number_in 1 1 ∷ 1 ∷ []) (kind.User 0 1)
    ∷ start (number_in 1 1 ∷ 1 ∷ 1 ∷ []) (kind.Write 0 (Number 5))
    ∷ get (number_in 1 1 ∷ 1 ∷ 1 ∷ 1 ∷ []) (tuple 0 0)
    ++ put (number_in 1 1 ∷ 1 ∷ 1 ∷ 2 ∷ []) (PutData 1 (Number 5)) (tuple 1 5)
    ++ commit (number_in 1 1 ∷ 1 ∷ 1 ∷ []) answer.Nothing
    ∷ abort (number_in 1 1 ∷ 1 ∷ []) (cause.Asked (number_in 1 1 ∷ 1 ∷ []))
    ∷ ends (top_name 1 1))

legal_undone : Legal setting undone
legal_undone = search rules

-- the child is listed, and nothing below it
child_listed : logged undone ≡ record { top = top_name 1 1; aborted = (number_in 1 1 ∷ 1 ∷ []) ∷ [] } ∷ []
child_listed = refl

-- so its write is not restored, though its top is logged
write_gone : restored setting.base 1 (told undone []) ≡ (tuple 0 0 ∷ []) ∷ []
write_gone = refl

-- it would be, without the list
list_counts : restored setting.base 1 (record { tops = this_top ∷ []; granted = grants undone 0 ∷ [] }) ≡ (tuple 1 5 ∷ []) ∷ []
list_counts = refl
