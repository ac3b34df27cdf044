-- What a disk keeps of what its pass has seen, it keeps of the closed history.
use Rattle.std.proofs.Common.{◌≡◌, ◌+◌, inl, inr, ℕ, true, false, List, [], ◌∷◌, ◌++◌, map, refl, sym, ap, ◌∙◌, subst, append_assoc, append-nil}
use Rattle.std.specs.Prelude.{Option, None, Some, IfSome, All, option_to_list, length, is_some}
use Rattle.std.specs.Option.{option_map}
use Rattle.std.proofs.lemmas.List.{map-append}
use Rattle.qc_codec.specs.Bodies as body
use Rattle.qc_codec.specs.Fields.{current}
use Rattle.qc_disk.specs.declared.disk.Disk.{Ghosts}
use Rattle.qc_event.specs.declared.event.Grant.{Grant}
use Rattle.qc_event.specs.Base.{Setting}
use Rattle.qc_event.specs.Grants.{MayGrant}
use Rattle.qc_event.specs.History.{Past, Name, end, grants, is_ready}
use Rattle.qc_event.specs.Legal.{Legal}
use Rattle.qc_event.specs.Listed.{listed}
use Rattle.qc_event.specs.Seats.{copy_seat, ledger_seat}
use Rattle.qc_event.proofs.OneEntry.{not_some, some_or_none}
use Rattle.qc_event.proofs.RootAndTops.{ready_started}
use Rattle.qc_journal.specs.Image.{EndsAt, HasRecords}
use Rattle.qc_journal.specs.Journal.{in_hand, ImageStands}
use Rattle.qc_journal.specs.declared.journal.State.{State}
use Rattle.qc_journal.specs.declared.journal.State.TheVariants as state
use Rattle.qc_ledger.specs.Entered.{KeepsLogged, MayFinish, pending_by, told_body, tops_of, unsure_by}
use Rattle.qc_ledger.specs.Shelf.{journal_in, top_in}
use Rattle.qc_ledger.specs.declared.shelf.Shelf.{Shelf}
use Rattle.qc_desk.proofs.Listed.{ready_stays}
use Rattle.qc_ledger.proofs.Passes.{may_be_next, may_first}
use Rattle.qc_desk.specs.Entries.{IsOlder, IsSince, entries_of}
use Rattle.qc_desk.specs.declared.view.View.{View}
use Rattle.qc_desk.proofs.Finishing.{ended_by_ledger}
use Rattle.qc_desk.proofs.NoGrants.{AreNoGrants, grants_kept, grant_still_allowed, others_grant_none}
use Rattle.qc_desk.proofs.Since.{since}
use Rattle.qc_site.specs.Back.{grant_body}
use Rattle.qc_site.specs.Replica.{Standing}
use Rattle.qc_site.specs.Sites.{KeepsGranted}
use Rattle.qc_site.specs.declared.log.GrantLog.{GrantLog}
use Rattle.qc_ledger.specs.Since.{IsNext, OrMore}
use Rattle.qc_system.specs.Left.{KeepsGrants, KeepsTops}
use Rattle.qc_system.proofs.Listed.{same_listed}

-- A COPY'S GRANTS

module _ {D : Type 0} {g : Ghosts D} (setting : Setting) (copy : ℕ) (before : List (List ℕ)) (log : GrantLog D g) (standing : Standing) (over : KeepsGranted copy before log standing) where
  abbrev given : List Grant
  given = grants standing.pass.seen copy

  abbrev write : Grant → List ℕ
  write = grant_body log.copies

  -- the bodies from before, and one for each of these grants
  abbrev bodies : List Grant → List (List ℕ)
  bodies gs = before ++ map write gs

  one_more : (h : Grant) → bodies (given ++ []) ++ write h ∷ [] ≡ bodies (given ++ h ∷ [])
  one_more h = append_assoc before (map write (given ++ [])) (write h ∷ []) ∙ ap (λ l. before ++ l) (ap (λ gs. map write gs ++ write h ∷ []) (append-nil given) ∙ sym (map-append write given (h ∷ [])))

  -- an image has the records of some of these grants
  abbrev Has : List ℕ → Type 0
  Has image = (gs : List Grant) × OrMore given standing.hand gs × HasRecords (bodies gs) image

  rest_is : OrMore given standing.hand (given ++ over.rest)
  rest_is = elim over.is_hand [
    | inl none ↦ inl (ap (λ r. given ++ r) none ∙ append-nil given)
    | inr all ↦ inr (ap (λ r. given ++ r) all)
  ]

  by_hand : (place : ℕ) (image : List ℕ) (hand : Option Grant) → hand ≡ standing.hand → over.rest ≡ [] → ImageStands place (bodies (given ++ over.rest)) (option_map write hand) image → Has image
  by_hand place image None is none stands = (given ++ over.rest, rest_is, inr (place, stands))
  by_hand place image (Some h) is none (inl stands) = (given ++ over.rest, rest_is, inr (place, stands))
  by_hand place image (Some h) is none (inr stands) = (
    given ++ h ∷ [],
    inr (ap (λ o. given ++ option_to_list o) is),
    inr (place + 5 + length (write h), subst (λ r. EndsAt (place + 5 + length (write h)) r image) (ap (λ r. bodies (given ++ r) ++ write h ∷ []) none ∙ one_more h) stands),
  )

  each_image : (image : List ℕ) → (g.view log.journal.disk).may_leave image → Has image
  each_image image left = elim over.in_journal [
    | inl none ↦ (given ++ over.rest, rest_is, inr (log.journal.place, subst (λ o. ImageStands log.journal.place (bodies (given ++ over.rest)) o image) none (over.keeps.each image left)))
    | inr (is, none) ↦ by_hand log.journal.place image standing.hand refl none (subst (λ o. ImageStands log.journal.place (bodies (given ++ over.rest)) o image) is (over.keeps.each image left))
  ]

  pub keeps_grants : IfSome standing.hand (MayGrant setting standing.pass.seen (copy_seat copy) copy) → KeepsGrants setting log.copies copy before (g.view log.journal.disk).may_leave standing.pass.seen
  keeps_grants may = record { untold = standing.hand; may = may; fit = over.fits; each = each_image }

-- the copy's grants are in the closed history what they were
module _ (setting : Setting) (copy : ℕ) (seen now : Past) (older : IsOlder seen now) (legal : Legal setting now) (own : entries_of (copy_seat copy) now ≡ entries_of (copy_seat copy) seen) where
  others : IsSince (copy_seat copy) seen now
  others = since (copy_seat copy) seen now older own

  here : Legal setting (others.0 ++ seen)
  here = subst (Legal setting) others.1 legal

  none : AreNoGrants copy others.0
  none = others_grant_none setting seen copy others.0 here others.2

  pub same_grants : grants now copy ≡ grants seen copy
  same_grants = ap (λ p. grants p copy) others.1 ∙ grants_kept setting seen copy others.0 none

  still : (o : Option Grant) → IfSome o (MayGrant setting seen (copy_seat copy) copy) → IfSome o (MayGrant setting now (copy_seat copy) copy)
  still None may = may
  still (Some g) may = subst (λ p. MayGrant setting p (copy_seat copy) copy g) (sym others.1) (grant_still_allowed setting seen others.0 (copy_seat copy) copy g here none may)

  pub keeps_grants_later : (copies : ℕ) (before : List (List ℕ)) (left : List ℕ → Type 0) → KeepsGrants setting copies copy before left seen → KeepsGrants setting copies copy before left now
  keeps_grants_later copies before left was = record {
    untold = was.untold;
    may = still was.untold was.may;
    fit = subst (λ gs. All (body.grant (current copies)).fits (gs ++ option_to_list was.untold)) (sym same_grants) was.fit;
    each = λ image is. let r = was.each image is in (r.0, subst (λ gs. OrMore gs was.untold r.0) (sym same_grants) r.1, r.2);
  }

-- THE LEDGER'S TOPS

module _ {D : Type 0} {g : Ghosts D} (setting : Setting) (before : List (List ℕ)) (shelf : Shelf D g) (pass : View) (told : Name → List Name) (own : pass.mine ≡ entries_of ledger_seat pass.seen) (over : KeepsLogged told before shelf (tops_of pass.mine)) where
  abbrev committed : List Name
  committed = tops_of (entries_of ledger_seat pass.seen)

  abbrev told_of : List Name → List (List ℕ)
  told_of tops = before ++ map (told_body told) tops

  abbrev HasTops : List ℕ → Type 0
  HasTops image = (tops : List Name) × OrMore committed (top_in shelf) tops × HasRecords (told_of tops) image

  next_more : (t : Name) → told_of (committed ++ []) ++ told_body told t ∷ [] ≡ told_of (committed ++ t ∷ [])
  next_more t = append_assoc before (map (told_body told) (committed ++ [])) (told_body told t ∷ []) ∙ ap (λ l. before ++ l) (ap (λ ts. map (told_body told) ts ++ told_body told t ∷ []) (append-nil committed) ∙ sym (map-append (told_body told) committed (t ∷ [])))

  by_state : (place : ℕ) (image : List ℕ) (s : State) (hand : Option Name) → hand ≡ top_in shelf → ImageStands place (told_of (committed ++ pending_by s hand)) (option_map (told_body told) (unsure_by s hand)) image → HasTops image
  by_state place image (state.Up missing) None is stands = (committed ++ [], inl (append-nil committed), inr (place, stands))
  by_state place image (state.Up missing) (Some t) is stands = (committed ++ t ∷ [], inr (ap (λ o. committed ++ option_to_list o) is), inr (place, stands))
  by_state place image (state.Down held) None is stands = (committed ++ [], inl (append-nil committed), inr (place, stands))
  by_state place image (state.Down held) (Some t) is (inl stands) = (committed ++ [], inl (append-nil committed), inr (place, stands))
  by_state place image (state.Down held) (Some t) is (inr stands) = (
    committed ++ t ∷ [],
    inr (ap (λ o. committed ++ option_to_list o) is),
    inr (place + 5 + length (told_body told t), subst (λ r. EndsAt (place + 5 + length (told_body told t)) r image) (next_more t) stands),
  )

  pub each_top : (image : List ℕ) → (g.view (journal_in shelf).disk).may_leave image → HasTops image
  each_top image left = by_state (journal_in shelf).place image (journal_in shelf).state (top_in shelf) refl
      (subst (λ o. ImageStands (journal_in shelf).place (told_of (committed ++ pending_by (journal_in shelf).state (top_in shelf))) o image) over.hand
      (subst (λ (p : Past). ImageStands (journal_in shelf).place (told_of (tops_of p ++ pending_by (journal_in shelf).state (top_in shelf))) (in_hand (journal_in shelf)) image) own
      (over.keeps.each image left)))

pub keeps_tops : {D : Type 0} {g : Ghosts D} (setting : Setting) (before : List (List ℕ)) (shelf : Shelf D g) (pass : View) → Legal setting pass.seen → pass.mine ≡ entries_of ledger_seat pass.seen
    → ((top : Name) → top_in shelf ≡ Some top → MayFinish pass top) → KeepsLogged (listed pass.seen) before shelf (tops_of pass.mine) → KeepsTops before (g.view (journal_in shelf).disk).may_leave pass.seen
keeps_tops setting before shelf pass legal own may over = record {
  untold = top_in shelf;
  next = by_hand (top_in shelf) may;
  each = each_top setting before shelf pass (listed pass.seen) own over;
}
  where
    by_hand : (o : Option Name) → ((top : Name) → o ≡ Some top → MayFinish pass top) → IfSome o (IsNext pass.seen)
    by_hand None m = tt
    by_hand (Some t) m = may_be_next setting pass t legal own (m t refl)

-- the ledger's tops are in the closed history what they were
module _ (setting : Setting) (seen now : Past) (older : IsOlder seen now) (legal : Legal setting now) (was_legal : Legal setting seen) (own : entries_of ledger_seat now ≡ entries_of ledger_seat seen) where
  abbrev own_view : View
  own_view = record { live = true; rules = false; number = ledger_seat; seen = seen; all = []; mine = entries_of ledger_seat seen; flight = []; out = []; kin = []; count = 0; drawn = None }

  next_still : (t : Name) → IsNext seen t → IsNext now t
  next_still t next =
      let ready : is_ready now t ≡ true = ready_stays seen now t older next.ready in
      record {
        is_top = next.is_top;
        ready = ready;
        is_open = record {
          started = ready_started setting now t legal ready;
          not_ended = not_some (end now t) (λ ended.
              some_or_none (end (entries_of ledger_seat now) t) (ended_by_ledger setting now t legal ready ended)
              (ap (λ p. end p t) own ∙ (may_first own_view t false next.is_top next.ready refl (sym (ap is_some next.is_open.not_ended))).first));
        };
      }

  any_still : (o : Option Name) → IfSome o (IsNext seen) → IfSome o (IsNext now)
  any_still None n = n
  any_still (Some t) n = next_still t n

  pub keeps_tops_later : (before : List (List ℕ)) (left : List ℕ → Type 0) → KeepsTops before left seen → KeepsTops before left now
  keeps_tops_later before left was = record {
    untold = was.untold;
    next = any_still was.untold was.next;
    each = λ image is.
        let r = was.each image is in
        let same : map (told_body (listed seen)) r.0 ≡ map (told_body (listed now)) r.0 = same_listed setting seen now older legal was_legal ledger_seat was.untold was.next r.0 r.1 in
        (r.0, subst (λ p. OrMore (tops_of p) was.untold r.0) (sym own) r.1, subst (λ bs. HasRecords (before ++ bs) image) same r.2);
  }
