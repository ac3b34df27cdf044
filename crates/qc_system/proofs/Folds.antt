-- What a run's end leaves to be folded: who enters something since, and what each copy holds then.
use Rattle.std.proofs.Common.{◌≡◌, ℕ, suc, ◌+◌, Bool, true, false, List, [], ◌∷◌, ◌++◌, length, map, refl, sym, ap, ap₂, ◌∙◌, subst, arith, ◌⊎◌, inl, inr}
use Rattle.std.specs.Prelude.{All}
use Rattle.std.proofs.lemmas.List.{length-append, nil_from_length}
use Rattle.std.proofs.lemmas.List.Elements.{All-cons, All-nil, All-weaker}
use Rattle.std.specs.List.{range_with_len}
use Rattle.qc_config.specs.declared.tuple.Tuple.{Tuple}
use Rattle.qc_disk.specs.Disk.{DiskView as Disk}
use Rattle.qc_event.specs.Base.{Setting}
use Rattle.qc_event.specs.declared.event.Entry.{Entry}
use Rattle.qc_event.specs.History.{Past, grants}
use Rattle.qc_event.specs.Legal.{Legal}
use Rattle.qc_event.specs.Seats.{copy_seat, is_client, ledger_seat}
use Rattle.qc_event.specs.Seen.{seen as tuple_of}
use Rattle.qc_event.specs.Standing.{HasEnded}
use Rattle.qc_desk.specs.Entries.{IsOlder, entries_of}
use Rattle.qc_desk.proofs.Lists.{entries_append, entries_here}
use Rattle.qc_desk.proofs.NoGrants.{own_grants}
use Rattle.qc_desk.proofs.Seers.{older_trans}
use Rattle.qc_refine.specs.Folded.{seen_row}
use Rattle.qc_refine.proofs.Restoring.FoldedPairs.{IsCopies, IsNoClients, ended_before, ended_still, seen_still}
use Rattle.qc_system.specs.Folds.{held_in, IsLeftBy, OtherKeeps, WasFolded}
use Rattle.qc_system.specs.Parts.{Findings}

-- WHO ENTERS SOMETHING

-- who has entered nothing between the first and the last has not since the second
pub none_between : (n : ℕ) (first mid last : Past) (since : IsOlder first mid) (newer : IsOlder mid last) → entries_of n first ≡ entries_of n last → entries_of n newer.0 ≡ []
none_between n first mid last since newer same =
    let low : entries_of n mid ≡ entries_of n since.0 ++ entries_of n first = ap (entries_of n) since.1 ∙ entries_append n since.0 first in
    let high : entries_of n last ≡ entries_of n newer.0 ++ entries_of n mid = ap (entries_of n) newer.1 ∙ entries_append n newer.0 mid in
    nil_from_length (entries_of n newer.0) (omega (arith, ap length low, ap length high, ap length same, length-append (entries_of n since.0) (entries_of n first), length-append (entries_of n newer.0) (entries_of n mid)))

-- where none of a seat is among some, none is among the later of them
none_behind : (n : ℕ) (e : Entry) (xs : Past) → entries_of n (e ∷ xs) ≡ [] → entries_of n xs ≡ []
none_behind n e xs none = nil_from_length (entries_of n xs) (omega (arith, ap length (entries_append n (e ∷ []) xs), length-append (entries_of n (e ∷ [])) (entries_of n xs), ap length none))

some_here : (e : Entry) (xs : Past) → entries_of e.seat (e ∷ xs) ≡ [] → ⊥
some_here e xs none = absurd (let never = sym (entries_here e xs) ∙ none in cc)

-- where neither a client nor the ledger entered one of some entries, copies entered all
only_copies : (newer : Past) → ((n : ℕ) → is_client n ≡ true → entries_of n newer ≡ []) → entries_of ledger_seat newer ≡ [] → All IsCopies newer
only_copies [] clients ledger = All-nil IsCopies
only_copies (e ∷ newer) clients ledger = All-cons IsCopies e newer
    (by_test (is_client e.seat) refl, λ is. some_here e newer (subst (λ n. entries_of n (e ∷ newer) ≡ []) (sym is) ledger))
    (only_copies newer (λ n client. none_behind n e newer (clients n client)) (none_behind ledger_seat e newer ledger))
  where
    by_test : (b : Bool) → is_client e.seat ≡ b → is_client e.seat ≡ false
    by_test true is = absurd (some_here e newer (clients e.seat is))
    by_test false is = is

-- AT THE END OF A RUN

-- No client and not the ledger entered something since a time.
pub record IsQuiet (since log : Past) : Type 0 where
  pub older : IsOlder since log
  pub clients : (n : ℕ) → is_client n ≡ true → entries_of n since ≡ entries_of n log
  pub ledger : entries_of ledger_seat since ≡ entries_of ledger_seat log

module _ (setting : Setting) (since log : Past) (legal : Legal setting log) (quiet : IsQuiet since log) where
  -- since a later time copies alone did
  copies_since : (seen : Past) → IsOlder since seen → (newer : IsOlder seen log) → All IsCopies newer.0
  copies_since seen before newer = only_copies newer.0
      (λ n client. none_between n since seen log before newer (quiet.clients n client))
      (none_between ledger_seat since seen log before newer quiet.ledger)

  legal_by : (seen : Past) (newer : IsOlder seen log) → Legal setting (newer.0 ++ seen)
  legal_by seen newer = subst (Legal setting) newer.1 legal

  -- what had its end has it
  pub ended_now : (seen : Past) → IsOlder since seen → IsOlder seen log → HasEnded seen → HasEnded log
  ended_now seen before newer ended = subst HasEnded (sym newer.1) (ended_still setting newer.0 seen (legal_by seen newer) ended (All-weaker IsCopies IsNoClients (λ e are. are.0) newer.0 (copies_since seen before newer)))

  -- and what has it had it
  pub ended_then : (seen : Past) → IsOlder since seen → IsOlder seen log → HasEnded log → HasEnded seen
  ended_then seen before newer ended = ended_before setting newer.0 seen (legal_by seen newer) (subst HasEnded newer.1 ended) (copies_since seen before newer)

-- what a copy's pair is folded to is what the copy holds
pub held_copy : (setting : Setting) (found : Findings) (copy : ℕ) (past : Past) → held_in setting found (copy + 1) past ≡ seen_row setting past copy
held_copy setting found copy past = let next : copy + 1 ≡ suc copy = omega arith in ap (λ n. held_in setting found n past) next

-- it holds the same as long as it enters nothing more
pub held_still : (setting : Setting) (found : Findings) (copy : ℕ) (seen log : Past) → Legal setting seen → Legal setting log → IsOlder seen log → HasEnded seen → entries_of (copy_seat copy) log ≡ entries_of (copy_seat copy) seen
    → held_in setting found (copy + 1) log ≡ held_in setting found (copy + 1) seen
held_still setting found copy seen log was_legal legal newer ended own = held_copy setting found copy log ∙ row (range_with_len 0 (length setting.firsts)) ∙ sym (held_copy setting found copy seen)
  where
    same : grants log copy ≡ grants seen copy
    same = sym (own_grants setting copy log legal) ∙ ap (λ p. grants p copy) own ∙ own_grants setting copy seen was_legal

    one : (rec : ℕ) → tuple_of setting.base log copy rec ≡ tuple_of setting.base seen copy rec
    one rec = subst (λ p. tuple_of setting.base p copy rec ≡ tuple_of setting.base seen copy rec) (sym newer.1)
        (seen_still setting newer.0 seen copy rec (subst (Legal setting) newer.1 legal) ended (ap (λ p. grants p copy) (sym newer.1) ∙ same))

    row : (recs : List ℕ) → map (tuple_of setting.base log copy) recs ≡ map (tuple_of setting.base seen copy) recs
    row [] = refl
    row (rec ∷ recs) = ap₂ (λ (t : Tuple) (l : List Tuple). t ∷ l) (one rec) (row recs)

-- WHAT WAS FOLDED SINCE A TIME WAS SINCE AN EARLIER ONE

module _ (setting : Setting) (found : Findings) (before since : Past) (older : IsOlder before since) (pair : ℕ) (disk : Disk) (seen : Past) where
  pub folded_since : WasFolded setting found since pair disk seen → WasFolded setting found before pair disk seen
  folded_since w = record { by = w.by; later = older_trans before since w.by older w.later; older = w.older; ended = w.ended; folds = w.folds }

  pub left_since : IsLeftBy setting found since pair disk seen → IsLeftBy setting found before pair disk seen
  left_since (inl kept) = inl kept
  left_since (inr w) = inr (folded_since w)

-- so of the ledger's pair, which is folded where this is so, on the same disk
pub by_fold : (setting : Setting) (found : Findings) (before since : Past) (older : IsOlder before since) (disk same : Disk) → disk ≡ same → (seen : Past) (Whole : Type 0)
    → OtherKeeps setting found 0 disk ⊎ (Whole × WasFolded setting found since 0 disk seen) → OtherKeeps setting found 0 same ⊎ (Whole × WasFolded setting found before 0 same seen)
by_fold setting found before since older disk same is seen Whole (inl kept) = inl (subst (OtherKeeps setting found 0) is kept)
by_fold setting found before since older disk same is seen Whole (inr both) = inr (both.0, subst (λ d. WasFolded setting found before 0 d seen) is (folded_since setting found before since older 0 disk seen both.1))
