-- Each request that a copy was unable to serve for want of room would have passed its journal's limit with its record; and none was
-- refused since the copy is strange.
use Rattle.std.proofs.Common.{◌≡◌, ◌⊎◌, inl, inr, ℕ, Bool, true, false, List, [], ◌∷◌, ◌++◌, length, map, refl, sym, ap, ◌∙◌, subst, append-nil}
use Rattle.std.specs.Prelude.{Option, None, Some, Result, Ok, Err, IfOk, OnOk, OnErr, option_to_list, ◌||◌, if◌then◌else◌}
use Rattle.std.specs.Option.{option_map_or}
use Rattle.qc_disk.specs.Disk.{IsImage}
use Rattle.qc_disk.specs.declared.disk.Disk.{Ghosts}
use Rattle.qc_event.specs.Base.{Setting}
use Rattle.qc_event.specs.Grants.{grant_with}
use Rattle.qc_event.specs.History.{Name, Past, grants, same}
use Rattle.qc_event.specs.Requests.{is_why, was_unable}
use Rattle.qc_event.specs.declared.event.Answered.{Answered}
use Rattle.qc_event.specs.declared.event.Answered.TheVariants as answer
use Rattle.qc_event.specs.declared.event.Ask.{Ask}
use Rattle.qc_event.specs.declared.event.Entry.{Entry}
use Rattle.qc_event.specs.declared.event.Event.{Event}
use Rattle.qc_event.specs.declared.event.Event.TheVariants as event
use Rattle.qc_event.specs.declared.event.Grant.{Grant}
use Rattle.qc_event.specs.declared.event.Why.{Why}
use Rattle.qc_event.specs.declared.event.Why.TheVariants as why
use Rattle.qc_event.specs.declared.short.Short.{Short}
use Rattle.qc_journal.specs.Image.{row}
use Rattle.qc_journal.specs.Journal.{IsTooLong, IsUp, disk_of, limit_of, place_of}
use Rattle.qc_desk.specs.Entries.{IsOlder}
use Rattle.qc_ledger.specs.Entered.{AtMost}
use Rattle.qc_desk.proofs.Seers.{older_trans}
use Rattle.qc_site.specs.AtDesk.{hand_entries, unable_entry}
use Rattle.qc_site.specs.Back.{grant_body}
use Rattle.qc_site.specs.Replica.{Standing}
use Rattle.qc_site.specs.Calls.{AnswerRests, CanServe, SiteState}
use Rattle.qc_site.specs.Sites.{AnswerEnters, EntersHand, EntersThen, IsFullFor, KeepsGranted, LeavesUp}
use Rattle.qc_site.specs.declared.log.GrantLog.{GrantLog}
use Rattle.qc_system.specs.Kept.{CopyHadNoRoom, CopyHadNoRoomFor, NoneStrange, WasFullFor}
use Rattle.qc_system.proofs.Paying.{at_most}
use Rattle.qc_system.proofs.Room.{place_is}

-- WHAT IS ENTERED

-- whether a name is told to have been refused since the copy is strange
abbrev told : Name → Past → Bool
told n past = was_unable past n why.Strange

hand_none : (copy : ℕ) (n : Name) (hand : Option Grant) (past : Past) → told n (hand_entries copy hand ++ past) ≡ told n past
hand_none copy n None past = refl
hand_none copy n (Some g) past = refl

by_hand : (copy : ℕ) (old new : Standing) (n : Name) → EntersHand copy old new → told n new.pass.mine ≡ told n old.pass.mine
by_hand copy old new n enters = at_most (told n) (hand_entries copy old.hand) old.pass.mine new.pass.mine (hand_none copy n old.hand old.pass.mine) enters

module _ (copy : ℕ) (ask : Ask) (old new : Standing) (n : Name) where
  behind : (e : Entry) → ((past : Past) → told n (e ∷ past) ≡ told n past) → EntersThen copy old new e → told n new.pass.mine ≡ told n old.pass.mine
  behind e none entered = ap (told n) entered.all ∙ none entered.mid ∙ at_most (told n) (hand_entries copy old.hand) old.pass.mine entered.mid (hand_none copy n old.hand old.pass.mine) entered.first_of_all

  -- another reason
  other_none : (other : Why) → is_why why.Strange other ≡ false → (past : Past) → told n (unable_entry copy ask other ∷ past) ≡ told n past
  other_none other is past = by_test (same ask.access n)
    where
      by_test : (b : Bool) → (option_map_or (is_why why.Strange) (if b then Some other else None) false || told n past) ≡ told n past
      by_test true = ap (λ c. c || told n past) is
      by_test false = refl

  -- who is told to have been refused since the copy is strange was so before, or it is what is answered
  by_answer : (said : Answered) → AnswerEnters copy ask said old new → told n new.pass.mine ≡ true → (told n old.pass.mine ≡ true) ⊎ (said ≡ answer.Strange)
  by_answer (answer.Granted tuple) (inl enters) is = inl (sym (by_hand copy old new n enters) ∙ is)
  by_answer (answer.Granted tuple) (inr entered) is = inl (sym (behind _ (λ past. refl) entered) ∙ is)
  by_answer (answer.Blocked holder) entered is = inl (sym (behind _ (λ past. refl) entered) ∙ is)
  by_answer (answer.Dead ancestor) entered is = inl (sym (behind _ (λ past. refl) entered) ∙ is)
  by_answer answer.Down entered is = inl (sym (behind _ (other_none why.Down refl) entered) ∙ is)
  by_answer answer.Full entered is = inl (sym (behind _ (other_none why.Full refl) entered) ∙ is)
  by_answer answer.Strange entered is = inr refl

  by_result : (r : Result Answered Short) → IfOk r (λ said. AnswerEnters copy ask said old new) → OnErr r (EntersHand copy old new) → told n new.pass.mine ≡ true
      → (told n old.pass.mine ≡ true) ⊎ (r ≡ Ok answer.Strange)
  by_result (Ok said) enters err is = elim (by_answer said enters is) [ inl was ↦ inl was | inr now ↦ inr (ap (λ x. Ok x) now) ]
  by_result (Err short) enters err is = inl (sym (by_hand copy old new n err) ∙ is)

-- WANT OF ROOM

module _ (setting : Setting) (copy : ℕ) (before : List (List ℕ)) (most : ℕ) where
  -- by what is seen later
  later_for : (seen now own : Past) → IsOlder seen now → (ev : Event) → CopyHadNoRoomFor setting copy before most seen own ev → CopyHadNoRoomFor setting copy before most now own ev
  later_for seen now own older (event.Unable access why.Full) was =
      record { earlier = was.earlier; older = older_trans was.earlier seen now was.older older; given = was.given; grant = was.grant; of_access = was.of_access; may = was.may; alive = was.alive; too_long = was.too_long }
  later_for seen now own older _ was = tt

  pub room_later : (seen now own : Past) → IsOlder seen now → CopyHadNoRoom setting copy before most seen own → CopyHadNoRoom setting copy before most now own
  room_later seen now [] older had = tt
  room_later seen now (e ∷ own) older had = (later_for seen now own older e.event had.0, room_later seen now own older had.1)

  -- what a site answers
  pub full_for : {D : Type 0} {g : Ghosts D} (ask : Ask) (log : GrantLog D g) (standing : Standing) (own : Past) → grants standing.pass.seen copy ≡ grants own copy → IsFullFor setting copy ask standing.pass.seen log
      → KeepsGranted copy before log standing → standing.hand ≡ None → IsUp log.journal
      → IsImage (g.view (disk_of log.journal)).content (g.view (disk_of log.journal)).may_leave → log.copies ≡ length setting.base → limit_of log.journal ≡ most → WasFullFor setting copy before most standing.pass.seen own ask.access
  full_for ask log standing own all full k none up here copies limit = record {
    earlier = full.earlier;
    older = full.older;
    given = sym full.given ∙ all;
    grant = grant_with ask full.tuple;
    of_access = refl;
    may = full.may;
    alive = full.alive;
    too_long =
        subst (λ n. IsTooLong place most (grant_body n (grant_with ask full.tuple))) copies
        (subst (λ m. IsTooLong place m (grant_body log.copies (grant_with ask full.tuple))) limit
        (subst (λ p. IsTooLong p (limit_of log.journal) (grant_body log.copies (grant_with ask full.tuple))) at full.too_long));
  }
    where
      place : ℕ
      place = length (row (before ++ map (grant_body (length setting.base)) (grants own copy)))

      same_given : grants standing.pass.seen copy ++ k.rest ≡ grants own copy
      same_given = ap (λ (rest : List Grant). grants standing.pass.seen copy ++ rest) (k.up up ∙ ap option_to_list none) ∙ append-nil (grants standing.pass.seen copy) ∙ all

      at : place_of log.journal ≡ place
      at = place_is log.journal _ k.keeps up here
          ∙ ap (λ (gs : List Grant). length (row (before ++ map (grant_body log.copies) gs))) same_given
          ∙ ap (λ n. length (row (before ++ map (grant_body n) (grants own copy)))) copies

  module _ (seen : Past) where
    abbrev Had : Past → Type 0
    Had own = CopyHadNoRoom setting copy before most seen own

    after_hand : (hand : Option Grant) (old now : Past) → AtMost (hand_entries copy hand) old now → Had old → Had now
    after_hand hand old now (inl is) had = subst Had (sym is) had
    after_hand hand old now (inr is) had = subst Had (sym is) (by_hand hand)
      where
        by_hand : (o : Option Grant) → Had (hand_entries copy o ++ old)
        by_hand None = had
        by_hand (Some g) = (tt, had)

    module _ (ask : Ask) (old new : Standing) (had : Had old.pass.mine) where
      one_more : (e : Entry) → EntersThen copy old new e → ((mid : Past) → new.pass.mine ≡ e ∷ mid → CopyHadNoRoomFor setting copy before most seen mid e.event) → Had new.pass.mine
      one_more e entered this = subst Had (sym entered.all) (this entered.mid entered.all, after_hand old.hand old.pass.mine entered.mid entered.first_of_all had)

      answer_room : (said : Answered) → AnswerEnters copy ask said old new → (said ≡ answer.Full → (own : Past) → grants new.pass.mine copy ≡ grants own copy → WasFullFor setting copy before most seen own ask.access) → Had new.pass.mine
      answer_room (answer.Granted tuple) (inl enters) full = after_hand old.hand old.pass.mine new.pass.mine enters had
      answer_room (answer.Granted tuple) (inr entered) full = one_more _ entered (λ mid is. tt)
      answer_room (answer.Blocked holder) entered full = one_more _ entered (λ mid is. tt)
      answer_room (answer.Dead ancestor) entered full = one_more _ entered (λ mid is. tt)
      answer_room answer.Down entered full = one_more _ entered (λ mid is. tt)
      answer_room answer.Full entered full = one_more _ entered (λ mid is. full refl mid (ap (λ p. grants p copy) is ∙ append-nil (grants mid copy)))
      answer_room answer.Strange entered full = one_more _ entered (λ mid is. tt)

  -- with at most the grant in hand more
  pub hand_room : (old new : Standing) → EntersHand copy old new → IsOlder old.pass.seen new.pass.seen → CopyHadNoRoom setting copy before most old.pass.seen old.pass.mine → CopyHadNoRoom setting copy before most new.pass.seen new.pass.mine
  hand_room old new enters older had = after_hand new.pass.seen old.hand old.pass.mine new.pass.mine enters (room_later old.pass.seen new.pass.seen old.pass.mine older had)

  pub serve_room : (ask : Ask) (old new : Standing) (r : Result Answered Short) → IfOk r (λ said. AnswerEnters copy ask said old new) → OnErr r (EntersHand copy old new) → IsOlder old.pass.seen new.pass.seen
      → (r ≡ Ok answer.Full → (own : Past) → grants new.pass.mine copy ≡ grants own copy → WasFullFor setting copy before most new.pass.seen own ask.access)
      → CopyHadNoRoom setting copy before most old.pass.seen old.pass.mine → CopyHadNoRoom setting copy before most new.pass.seen new.pass.mine
  serve_room ask old new (Ok said) enters err older full had = answer_room new.pass.seen ask old new (room_later old.pass.seen new.pass.seen old.pass.mine older had) said enters (λ is. full (ap (λ x. Ok x) is))
  serve_room ask old new (Err short) enters err older full had = hand_room old new err older had

-- STRANGE

pub hand_plain : (copy : ℕ) (old new : Standing) → EntersHand copy old new → NoneStrange old.pass.mine → NoneStrange new.pass.mine
hand_plain copy old new enters none access unable = none access (sym (by_hand copy old new access enters) ∙ unable)

pub serve_plain : (copy : ℕ) (ask : Ask) (old new : Standing) (r : Result Answered Short) → IfOk r (λ said. AnswerEnters copy ask said old new) → OnErr r (EntersHand copy old new) → (r ≡ Ok answer.Strange → ⊥) → NoneStrange old.pass.mine → NoneStrange new.pass.mine
serve_plain copy ask old new r enters err never none access unable = elim (by_result copy ask old new access r enters err unable) [
  | inl was ↦ none access was
  | inr now ↦ never now
]

-- a copy that answers by its locks, or that it is full, can serve
pub locks_serve : {D : Type 0} {g : Ghosts D} (copy : ℕ) (ask : Ask) (new : SiteState g) (said : Answered) → AnswerRests copy ask new said → LeavesUp said → CanServe new.replica
locks_serve copy ask new (answer.Granted tuple) rests is = rests.0
locks_serve copy ask new (answer.Blocked holder) rests is = rests
locks_serve copy ask new (answer.Dead ancestor) rests is = rests
locks_serve copy ask new answer.Down rests is = absurd is
locks_serve copy ask new answer.Full rests is = rests
locks_serve copy ask new answer.Strange rests is = absurd is

-- what an answer says
pub ok_is : {T E : Type 0} (P : T → Type 0) (r : Result T E) (x : T) → r ≡ Ok x → IfOk r P → P x
ok_is P r x is h = subst (λ q. IfOk q P) is h

pub on_ok : {T E : Type 0} (fact : Type 0) (r : Result T E) (x : T) → r ≡ Ok x → OnOk r fact → fact
on_ok fact r x is h = subst (λ q. OnOk q fact) is h
