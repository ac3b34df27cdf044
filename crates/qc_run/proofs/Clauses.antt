-- The clauses of a run, each from what it answered to its words.
use Rattle.std.proofs.Common.{ℕ, ◌≡◌, ◌≤◌, List, [], ◌++◌, length, reverse, refl, sym, ap, subst, inl, inr, arith}
use Rattle.std.specs.Prelude.{◌≢◌, ◌⊎◌, All}
use Rattle.qc_codec.specs.declared.image.BadImage.{BadImage}
use Rattle.qc_disk.specs.Disk.{DiskView}
use Rattle.qc_disk.specs.Shop.{TellsAlike, disks_of_place, ShopView as Shop}
use Rattle.qc_event.specs.History.{Name, limit}
use Rattle.qc_event.specs.declared.event.Entry.{Entry}
use Rattle.qc_io.specs.Io.{Rose, Keeps, SinkView, SourceView}
use Rattle.qc_opening.specs.Disks.{first_numbers}
use Rattle.qc_opening.specs.Images.{IsFirstFault, Offers}
use Rattle.qc_report.specs.Report.{Text}
use Rattle.qc_script.specs.Plan.{ScriptPlan}
use Rattle.qc_run.specs.Left.{Wrote, IsPerformed, TellsDoubt, HasAudited, HasRun, IsUnmounted, WasUnmounted, CameBack, IsAnswer, HadNoScript, IsAnswerToWords, IsEarly}
use Rattle.qc_run.specs.Run.{journal_limit, form_of, text_by, AllEnded, BeganNothing, HadNone, HadNoSession, HadScript, HadSession, IsDiskFault, IsInDoubt, IsNotMounted, IsOfAudit, IsReadFault, IsScriptFault, IsTold, NoneBegun, OfRun, OfScript, RanToEnd, RunsScript, TellsFault, UnlessAudit}
use Rattle.qc_run.specs.Audit.{IsAudited, MayAudit}
use Rattle.qc_run.specs.Words.{place_of, AsAsked, Asked, AtPlace, IsAudit, IsCommand, IsNoCommand}
use Rattle.qc_run.specs.declared.ran.Ran.{Ran}
use Rattle.qc_run.specs.declared.status.Status.{Status}
use Rattle.qc_run.specs.declared.status.Status.TheVariants as status
use Rattle.qc_run.proofs.OneCommand.{one_command}
use Rattle.qc_run.proofs.Taken.{proper_one}
use Rattle.qc_run.proofs.Doubts.{all_ended}
use Rattle.qc_run.proofs.Given.{same_shop, tells_others}
use Rattle.qc_run.proofs.Statuses.{ran_read, none_had, unmounted_not_ran, performed_began, unmounted_read, performed_mounted, unmounted_had, performed_had, none_fault, no_fault, audit_mounted, refused_unaudited, performed_unaudited, none_ready}

-- WORDS

-- what is so of one thing that words ask for is so of all that they ask for
pub as_asked : (words : List (List ℕ)) (asked : Asked) (Q : Asked → Type 0) → IsCommand words asked → Q asked → AsAsked words Q
as_asked words asked Q is so = λ other too. subst Q (one_command words asked other is too) so

-- and so with its place
pub at_place : (words : List (List ℕ)) (asked : Asked) (Q : List ℕ → Type 0) → IsCommand words asked → Q (place_of asked) → AtPlace words Q
at_place words asked Q is so = as_asked words asked (λ a. Q (place_of a)) is so

-- CLAUSES

module _ {D H : Type 0} (view : D → DiskView) (shop_view : H → Shop) (words : List (List ℕ)) (source_before source_now : SourceView) (shop shop_now : H) (before now : SinkView) (ran : Ran D) where
  -- what is told of the shop before
  abbrev shop_before : Shop
  shop_before = shop_view shop

  -- how often it has failed now
  abbrev shop_faults : ℕ
  shop_faults = (shop_view shop_now).faults

  abbrev Answers : Type 0
  Answers = IsAnswerToWords view shop_view words source_before source_now shop shop_now before now ran

  -- this is the script that the words run
  abbrev Is : ScriptPlan → Type 0
  Is s = RunsScript words source_before.left source_now.left s

  -- what was answered where this is asked for, and runs this script
  abbrev ToScript : ScriptPlan → Asked → Type 0
  ToScript s asked = IsAnswer view s shop_before (place_of asked) (form_of asked) (shop_view shop_now) before now ran

  abbrev Runs : ScriptPlan → Asked → Type 0
  Runs s asked = HasRun view s shop_before (place_of asked) ran

  -- no store was mounted for it
  abbrev Unmounted : ScriptPlan → Asked → Type 0
  Unmounted s asked = WasUnmounted view s shop_before (place_of asked) shop_faults ran

  -- why none was
  abbrev Why : ScriptPlan → Asked → List D → Status → Type 0
  Why s asked disks answer = IsUnmounted view s shop_before (place_of asked) shop_faults disks answer

  -- a trail was audited
  abbrev Audited : Type 0
  Audited = HasAudited source_before source_now before now ran

  -- an audit answers no other status than its own
  not_audited : Audited → (why : Status) → ran.status ≡ why → (MayAudit why → ⊥) → ⊥
  not_audited audit why is none = none (subst MayAudit is audit.may)

  -- no session was begun where there was no script
  no_script : IsEarly before now ran → HadNoScript words source_before source_now ran.status → HadNoSession ran
  no_script early none = record { other = λ had. none_had words source_before source_now ran.status none (ran_read ran.status had); none = early.refusal.none }

  -- nor where no store was mounted
  no_store : (s : ScriptPlan) (asked : Asked) → Unmounted s asked → HadNoSession ran
  no_store s asked un = record { other = unmounted_not_ran view s shop_before (place_of asked) shop_faults ran.disks.items ran.status un.why; none = un.none }

  -- what is so of a run whose session began
  pub of_run : (P : ScriptPlan → Type 0) → Answers → ((s : ScriptPlan) (it : Is s) → Runs s it.asked → P s)
      → OfRun words source_before.left source_now.left ran P
  of_run P (inl audit) so = inl audit.0
  of_run P (inr (inl refused)) so = inr (inl (no_script refused.0 refused.1))
  of_run P (inr (inr run)) so = by_came run.1.1.came
    where
      by_came : Unmounted run.0 run.1.0.asked ⊎ Runs run.0 run.1.0.asked → OfRun words source_before.left source_now.left ran P
      by_came (inl un) = inr (inl (no_store run.0 run.1.0.asked un))
      by_came (inr has) = inr (inr (run.0, run.1.0, so run.0 run.1.0 has))

  -- what is so where there was a script
  pub by_script : (P : ScriptPlan → Type 0) → Answers → HadScript ran.status → ((s : ScriptPlan) (it : Is s) → ToScript s it.asked → P s)
      → UnlessAudit words (OfScript words source_before.left source_now.left P)
  by_script P (inl audit) read so = inl audit.0
  by_script P (inr (inl refused)) read so = absurd (none_had words source_before source_now ran.status refused.1 read)
  by_script P (inr (inr run)) read so = inr (run.0, run.1.0, so run.0 run.1.0 run.1.1)

  has_run : (s : ScriptPlan) (asked : Asked) → ToScript s asked → HadSession ran.status → Runs s asked
  has_run s asked to had = by_came to.came
    where
      by_came : Unmounted s asked ⊎ Runs s asked → Runs s asked
      by_came (inl un) = absurd (unmounted_not_ran view s shop_before (place_of asked) shop_faults ran.disks.items ran.status un.why had)
      by_came (inr has) = has

  -- what is so where its session was run
  pub by_run : (P : ScriptPlan → Type 0) → Answers → HadSession ran.status → ((s : ScriptPlan) (it : Is s) → Wrote before now ran.status (text_by (form_of it.asked) s.table ran.start ran.trail) → Runs s it.asked → P s)
      → UnlessAudit words (OfScript words source_before.left source_now.left P)
  by_run P is had so = by_script P is (ran_read ran.status had) (λ s it to. so s it to.wrote (has_run s it.asked to had))

  -- what was written, whatever the text
  wrote : Answers → (text : Text) × Wrote before now ran.status text
  wrote (inl audit) = (audit.1.text, audit.1.wrote)
  wrote (inr (inl refused)) = ([], refused.0.refusal.wrote [])
  wrote (inr (inr run)) = (text_by (form_of run.1.0.asked) run.0.table ran.start ran.trail, run.1.1.wrote)

  pub told : Answers → IsTold ran.status → TellsFault before.taken now.taken before.faults now.faults ran.status
  told is fault = (wrote is).1.line fault

  pub kept : Answers → ran.status ≡ status.Memory → Keeps before.taken now.taken
  kept is memory = (wrote is).1.none memory

  pub write_failed : Answers → ran.status ≡ status.WriteFault → Rose before.faults now.faults
  write_failed is failed = (wrote is).1.cause failed

  pub sink_later : Answers → before.faults ≤ now.faults
  sink_later is = (wrote is).1.faults

  -- a script was not answered by a status that neither a session gives nor a mounting
  not_to_script : (s : ScriptPlan) (asked : Asked) (why : Status) → ran.status ≡ why → ((disks : List D) → Why s asked disks why → ⊥) → (IsPerformed why → ⊥) → ToScript s asked → ⊥
  not_to_script s asked why is no_mounting no_session to = by_came to.came
    where
      by_came : Unmounted s asked ⊎ Runs s asked → ⊥
      by_came (inl un) = no_mounting ran.disks.items (subst (Why s asked ran.disks.items) is un.why)
      by_came (inr has) = no_session (subst IsPerformed is has.answer)

  pub usage : Answers → ran.status ≡ status.Usage → IsNoCommand words
  usage (inl audit) is = absurd (not_audited audit.1 status.Usage is (λ no. no))
  usage (inr (inl refused)) is = subst (HadNoScript words source_before source_now) is refused.1
  usage (inr (inr run)) is = absurd (not_to_script run.0 run.1.0.asked status.Usage is (λ disks no. no) (λ no. no) run.1.1)

  pub read_failed : Answers → ran.status ≡ status.ReadFault → IsReadFault words source_before.faults source_now.faults
  read_failed (inl audit) is = (inr audit.0, subst (IsAudited source_before source_now before now) is audit.1.said)
  read_failed (inr (inl refused)) is = let failed = subst (HadNoScript words source_before source_now) is refused.1 in (inl failed.0, failed.1)
  read_failed (inr (inr run)) is = absurd (not_to_script run.0 run.1.0.asked status.ReadFault is (λ disks no. no) (λ no. no) run.1.1)

  pub script_fault : Answers → IsScriptFault words source_before.left ran.status
  script_fault (inl audit) = no_fault words source_before.left ran.status (λ e is. not_audited audit.1 (status.Script e) is (λ no. no))
  script_fault (inr (inl refused)) = none_fault words source_before source_now ran.status refused.1
  script_fault (inr (inr run)) = no_fault words source_before.left ran.status (λ e is. not_to_script run.0 run.1.0.asked (status.Script e) is (λ disks no. no) (λ no. no) run.1.1)

  unmounted_unaudited : (s : ScriptPlan) (asked : Asked) (disks : List D) (answer : Status) → Why s asked disks answer → IsOfAudit answer → ⊥
  unmounted_unaudited s asked disks status.Trail un of = un
  unmounted_unaudited s asked disks (status.Illegal at) un of = un
  unmounted_unaudited s asked disks (status.Unserial at) un of = un
  unmounted_unaudited s asked disks answer un of = absurd of

  -- a status that audits alone answer is answered to no other words
  pub of_audit : Answers → IsOfAudit ran.status → IsAudit words
  of_audit (inl audit) of = audit.0
  of_audit (inr (inl refused)) of = absurd (refused_unaudited words source_before source_now ran.status refused.1 of)
  of_audit (inr (inr run)) of = absurd (by_came run.1.1.came)
    where
      by_came : Unmounted run.0 run.1.0.asked ⊎ Runs run.0 run.1.0.asked → ⊥
      by_came (inl un) = unmounted_unaudited run.0 run.1.0.asked ran.disks.items ran.status un.why of
      by_came (inr has) = performed_unaudited ran.status has.answer of

  pub began_nothing : Answers → BeganNothing ran.status → NoneBegun ran.start ran.trail
  began_nothing (inl audit) none = audit.1.none
  began_nothing (inr (inl refused)) none = refused.0.refusal.none
  began_nothing (inr (inr run)) none = by_came run.1.1.came
    where
      by_came : Unmounted run.0 run.1.0.asked ⊎ Runs run.0 run.1.0.asked → NoneBegun ran.start ran.trail
      by_came (inl un) = un.none
      by_came (inr has) = absurd (performed_began ran.status has.answer none)

  -- what a mounting answered to a script, where no session gives this status and no words do
  by_mounting : (why : Status) (P : ScriptPlan → Asked → Type 0) → Answers → ran.status ≡ why → (IsPerformed why → ⊥) → (MayAudit why → ⊥) → (HadNoScript words source_before source_now why → ⊥)
      → ((s : ScriptPlan) (asked : Asked) → Why s asked ran.disks.items why → P s asked)
      → (s : ScriptPlan) × ((it : Is s) × P s it.asked)
  by_mounting why P (inl audit) is no_session no_audit no_words so = absurd (not_audited audit.1 why is no_audit)
  by_mounting why P (inr (inl refused)) is no_session no_audit no_words so = absurd (no_words (subst (HadNoScript words source_before source_now) is refused.1))
  by_mounting why P (inr (inr run)) is no_session no_audit no_words so = (run.0, (run.1.0, by_came run.1.1.came))
    where
      by_came : Unmounted run.0 run.1.0.asked ⊎ Runs run.0 run.1.0.asked → P run.0 run.1.0.asked
      by_came (inl un) = so run.0 run.1.0.asked (subst (Why run.0 run.1.0.asked ran.disks.items) is un.why)
      by_came (inr has) = absurd (no_session (subst IsPerformed is has.answer))

  -- the disk of a number failed, or the shop at it, at a place
  abbrev IsFaulty : ℕ → ScriptPlan → List ℕ → Type 0
  IsFaulty which s place = IsDiskFault view s.table.copies shop_before.faults shop_faults (shop_before.counts place) ran.disks.items which

  pub disk_failed : Answers → (which : ℕ) → ran.status ≡ status.DiskFault which → OfScript words source_before.left source_now.left (λ s. AtPlace words (IsFaulty which s))
  disk_failed is which fault =
      let it = by_mounting (status.DiskFault which) (λ s asked. IsFaulty which s (place_of asked)) is fault (λ no. no) (λ no. no) (λ no. no.1) (λ s asked why. why) in
      (it.0, it.1.0, at_place words it.1.0.asked (IsFaulty which it.0) it.1.0.is_command it.1.1)

  -- the first fault of the images that were offered at a place
  abbrev IsTheirs : BadImage → ScriptPlan → List ℕ → Type 0
  IsTheirs bad s place = (images : List (List ℕ)) → Offers s.table (shop_before.offers place) images → IsFirstFault s.table journal_limit bad images

  pub image_failed : Answers → (bad : BadImage) → ran.status ≡ status.Image bad → OfScript words source_before.left source_now.left (λ s. AtPlace words (IsTheirs bad s))
  image_failed is bad fault =
      let it = by_mounting (status.Image bad) (λ s asked. IsTheirs bad s (place_of asked)) is fault (λ no. no) (λ no. no) (λ no. no.1) (λ s asked why. why) in
      (it.0, it.1.0, at_place words it.1.0.asked (IsTheirs bad it.0) it.1.0.is_command it.1.1)

  left_back : (s : ScriptPlan) (asked : Asked) → IsNotMounted ran.status → Unmounted s asked ⊎ Runs s asked → CameBack view s shop_before (place_of asked) ran.disks.items
  left_back s asked un (inl was) = was.back
  left_back s asked un (inr has) = absurd (performed_mounted ran.status has.answer un)

  pub came_back : Answers → IsNotMounted ran.status → OfScript words source_before.left source_now.left (λ s. AtPlace words (λ place. CameBack view s shop_before place ran.disks.items))
  came_back (inl audit) un = absurd (audit_mounted ran.status audit.1.may un)
  came_back (inr (inl refused)) un = absurd (none_had words source_before source_now ran.status refused.1 (unmounted_read ran.status un))
  came_back (inr (inr run)) un = (run.0, run.1.0, at_place words run.1.0.asked (λ p. CameBack view run.0 shop_before p ran.disks.items) run.1.0.is_command (left_back run.0 run.1.0.asked un run.1.1.came))

  -- no disk was obtained where there was no script
  pub none_obtained : Answers → HadNone ran.status → ran.disks.items ≡ []
  none_obtained (inl audit) none = audit.1.no_disks
  none_obtained (inr (inl refused)) none = refused.0.no_disks
  none_obtained (inr (inr run)) none = absurd (none_of_script run.0 run.1.0.asked run.1.1.came)
    where
      none_of_script : (s : ScriptPlan) (asked : Asked) → Unmounted s asked ⊎ Runs s asked → ⊥
      none_of_script s asked (inl un) = unmounted_had view s shop_before (place_of asked) shop_faults ran.disks.items ran.status un.why none
      none_of_script s asked (inr has) = performed_had ran.status has.answer none

  -- those of a place that came back are all that the shop gave
  abbrev IsGiven : ScriptPlan → List ℕ → Type 0
  IsGiven s place = (shop_view shop_now).gave ≡ shop_before.gave ++ disks_of_place place (first_numbers s.table.copies (length ran.disks.items))

  -- no disk was obtained and the shop is as it was, or those of a place were
  pub given : Answers → ((ran.disks.items ≡ []) × (shop_now ≡ shop)) ⊎ OfScript words source_before.left source_now.left (λ s. AtPlace words (IsGiven s))
  given (inl audit) = inl (audit.1.no_disks, audit.2)
  given (inr (inl refused)) = inl (refused.0.no_disks, refused.2)
  given (inr (inr run)) = inr (run.0, run.1.0, at_place words run.1.0.asked (IsGiven run.0) run.1.0.is_command run.1.1.given.gave)

  -- of the disks that it did not give the shop tells as before
  pub others : Answers → (more : List (List ℕ × ℕ)) → (shop_view shop_now).gave ≡ shop_before.gave ++ more → (place : List ℕ) (n : ℕ) → All (λ given. n ≢ given.1) more → TellsAlike shop_before (shop_view shop_now) place n
  others (inl audit) more gave place n other = same_shop shop_view shop shop_now audit.2 place n
  others (inr (inl refused)) more gave place n other = same_shop shop_view shop shop_now refused.2 place n
  others (inr (inr run)) more gave place n other = tells_others run.0.table.copies (place_of run.1.0.asked) shop_before (shop_view shop_now) (length ran.disks.items) run.1.1.given more gave place n other

  -- where no session was begun, no disk was obtained, or those that were come back as a mounting left them
  pub wanting : Answers → ran.start ≡ [] → (ran.disks.items ≡ []) ⊎ OfScript words source_before.left source_now.left (λ s. AtPlace words (λ place. CameBack view s shop_before place ran.disks.items))
  wanting (inl audit) none = inl audit.1.no_disks
  wanting (inr (inl refused)) none = inl refused.0.no_disks
  wanting (inr (inr run)) none = inr (run.0, run.1.0, at_place words run.1.0.asked (λ p. CameBack view run.0 shop_before p ran.disks.items) run.1.0.is_command (unmounted run.1.1.came))
    where
      unmounted : Unmounted run.0 run.1.0.asked ⊎ Runs run.0 run.1.0.asked → CameBack view run.0 shop_before (place_of run.1.0.asked) ran.disks.items
      unmounted (inl un) = un.back
      unmounted (inr has) = absurd (begun has)
        where
          begun : Runs run.0 run.1.0.asked → ⊥
          begun has =
              let proper = proper_one source_before.left source_now.left run.0 run.1.0.asked run.1.0.is_script in
              omega (arith, ap length none, has.grown.2.mounted.mounted.as_many, proper.some_copy)

  -- what is so of a session that was run, where this status is none that began nothing
  by_session : (why : Status) (P : Type 0) → Answers → ran.status ≡ why → (Audited → MayAudit why → P) → ((s : ScriptPlan) (asked : Asked) → Why s asked ran.disks.items why → ⊥) → (HadNoScript words source_before source_now why → ⊥)
      → ((s : ScriptPlan) (asked : Asked) → Runs s asked → P) → P
  by_session why P (inl audit) is audited no_mounting no_words so = audited audit.1 (subst MayAudit is audit.1.may)
  by_session why P (inr (inl refused)) is audited no_mounting no_words so = absurd (no_words (subst (HadNoScript words source_before source_now) is refused.1))
  by_session why P (inr (inr run)) is audited no_mounting no_words so = by_came run.1.1.came
    where
      by_came : Unmounted run.0 run.1.0.asked ⊎ Runs run.0 run.1.0.asked → P
      by_came (inl un) = absurd (no_mounting run.0 run.1.0.asked (subst (Why run.0 run.1.0.asked ran.disks.items) is un.why))
      by_came (inr has) = so run.0 run.1.0.asked has

  pub room : Answers → ran.status ≡ status.Room → length ran.trail ≡ limit
  room is full = by_session status.Room (length ran.trail ≡ limit) is full (λ audit may. absurd may) (λ s asked no. no) (λ no. no.1) (λ s asked has. has.room full)

  pub in_doubt : Answers → ran.status ≡ status.InDoubt → (top : Name) × IsInDoubt (reverse ran.trail) top
  in_doubt is doubt = by_session status.InDoubt ((top : Name) × IsInDoubt (reverse ran.trail) top) is doubt (λ audit may. absurd may) (λ s asked no. no) (λ no. no.1) (λ s asked has. subst (λ a. TellsDoubt a ran.trail) doubt has.doubt)

  pub none_in_doubt : Answers → ran.status ≡ status.Done → (top : Name) → IsInDoubt (reverse ran.trail) top → ⊥
  none_in_doubt is done = by_session status.Done ((top : Name) → IsInDoubt (reverse ran.trail) top → ⊥) is done (λ audit may. subst (λ (t : List Entry). (top : Name) → IsInDoubt (reverse t) top → ⊥) (sym audit.none.1) (λ top doubt. none_ready top doubt.ready)) (λ s asked no. no) (λ no. no.1) (λ s asked has. subst (λ a. TellsDoubt a ran.trail) done has.doubt)

  pub all_have_ended : Answers → ran.status ≡ status.Done → AllEnded (reverse ran.trail)
  all_have_ended is done = by_session status.Done (AllEnded (reverse ran.trail)) is done (λ audit may. subst (λ (t : List Entry). AllEnded (reverse t)) (sym audit.none.1) refl) (λ s asked no. no) (λ no. no.1) (λ s asked has.
      all_ended (reverse ran.trail) ((has.follows (subst RanToEnd (sym done) tt)).each_settled) (none_in_doubt is done))
