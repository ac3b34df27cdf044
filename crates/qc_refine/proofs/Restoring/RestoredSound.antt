-- What disks restore that stand beside a legal history is sound for the values of a serial machine after it.
use Rattle.std.proofs.Common.{◌≡◌, ℕ, ◌<◌, List, [], ◌∷◌, ◌++◌, length, refl, sym, ap, ap₂, ◌∙◌, subst, append-nil, append_assoc}
use Rattle.std.specs.Prelude.{Option, None, Some, is_some, MatchOption}
use Rattle.std.proofs.lemmas.List.Elements.{All-weaker}
use Rattle.qc_config.specs.Val.{Datum}
use Rattle.qc_config.specs.declared.tuple.Tuple.{Tuple}
use Rattle.qc_event.specs.declared.event.Answer.TheVariants.{Nothing}
use Rattle.qc_event.specs.declared.event.Grant.{Grant}
use Rattle.qc_event.specs.declared.event.How.TheVariants.{Commit}
use Rattle.qc_event.specs.declared.event.Kind.{Kind}
use Rattle.qc_event.specs.declared.event.Kind.TheVariants as kind
use Rattle.qc_event.specs.Base.{Setting, start_tuple}
use Rattle.qc_event.specs.Commits.{MayCommit}
use Rattle.qc_event.specs.History.{Past, Name, Begun, start, end, is_ready, asked, granted, grants}
use Rattle.qc_event.specs.Legal.{Legal, Allowed, MayEnd}
use Rattle.qc_event.specs.Seats.{ledger_seat}
use Rattle.qc_event.specs.Sound.{IsSound}
use Rattle.qc_event.specs.Standing.{IsUser}
use Rattle.qc_event.proofs.Histories.{or_none}
use Rattle.qc_serial.specs.Serial.{final_values}
use Rattle.qc_serial.specs.Visible.{served_order, left_at}
use Rattle.qc_refine.specs.InTurn.{left_base}
use Rattle.qc_refine.proofs.Order.CopiesSerial.{left_copies}
use Rattle.qc_refine.proofs.Copies.Grids.{grid, grid_at, grid_copies, grids_agree}
use Rattle.qc_codec.specs.declared.past.Logged.{Logged}
use Rattle.qc_codec.specs.Restored.{restored_tuple}
use Rattle.qc_codec.specs.Ledger.{commit_of}
use Rattle.qc_refine.specs.Restored.{Kept, granted_at, restored, restored_setting}
use Rattle.qc_event.specs.Listed.{listed}
use Rattle.qc_refine.specs.Listed.{logged, logged_as}
use Rattle.qc_refine.specs.Standing.{IsNext, AreNext, committed_too, IsUntold, StandBeside}
use Rattle.qc_refine.proofs.Restoring.LoggedTops.{top_user}
use Rattle.qc_refine.proofs.Restoring.RestoredTuples.{restores}

-- TOPS THAT THE HISTORY DOES NOT TELL YET

may_commit : (setting : Setting) (past : Past) (l : Logged) (x : ℕ) → Legal setting past → IsNext past l → l.top ≡ x ∷ [] → Allowed setting past (commit_of (x ∷ []))
may_commit setting past l x legal next is = by_start (start past (x ∷ [])) (top_user setting past x legal (ap (λ t. is_some (start past t)) (sym is) ∙ next.is_open.started))
  where
    by_kind : (b : Begun) (k : Kind) → IsUser k → MayCommit setting past ledger_seat (x ∷ []) b Nothing k
    by_kind b (kind.User session body) user = record {
      ledger = refl;
      is_open = record { started = ap (λ t. is_some (start past t)) (sym is) ∙ next.is_open.started; not_ended = ap (end past) (sym is) ∙ next.is_open.not_ended };
      ready = ap (is_ready past) (sym is) ∙ next.ready;
      nothing = refl;
    }
    by_kind b _ user = absurd user

    by_start : (o : Option Begun) → MatchOption o ⊥ (λ b. IsUser b.kind) → MatchOption o ⊥ (MayEnd setting past ledger_seat (x ∷ []) (Commit Nothing))
    by_start None user = user
    by_start (Some b) user = by_kind b b.kind user

pub legal_too : (setting : Setting) (past : Past) (more : List Logged) → Legal setting past → AreNext past more → Legal setting (committed_too past more)
legal_too setting past [] legal next = legal
legal_too setting past (l ∷ ls) legal next =
    legal_too setting (commit_of l.top ∷ past) ls (legal, subst (λ t. Allowed setting past (commit_of t)) (sym next.0.is_top) (may_commit setting past l next.0.number legal next.0 next.0.is_top)) next.1

logged_more : (past : Past) (l : Logged) (x : ℕ) → l.top ≡ x ∷ [] → l.aborted ≡ listed past l.top → logged (commit_of l.top ∷ past) ≡ logged past ++ l ∷ []
logged_more past l x is same =
    ap (λ t. logged (commit_of t ∷ past)) is
    ∙ ap (λ (k : Logged). logged past ++ k ∷ []) (ap (logged_as past) (sym is) ∙ ap (λ (names : List Name). record { top = l.top; aborted = names }) (sym same))

pub logged_too : (past : Past) (more : List Logged) → AreNext past more → logged (committed_too past more) ≡ logged past ++ more
logged_too past [] next = sym (append-nil (logged past))
logged_too past (l ∷ ls) next =
    logged_too (commit_of l.top ∷ past) ls next.1
    ∙ ap (λ ks. ks ++ ls) (logged_more past l next.0.number next.0.is_top next.0.same_list)
    ∙ append_assoc (logged past) (l ∷ []) ls

pub grants_too : (past : Past) (more : List Logged) (copy : ℕ) → grants (committed_too past more) copy ≡ grants past copy
grants_too past [] copy = refl
grants_too past (l ∷ ls) copy = grants_too (commit_of l.top ∷ past) ls copy ∙ append-nil (grants past copy)

asked_too : (past : Past) (more : List Logged) (n : Name) → asked (committed_too past more) n ≡ asked past n
asked_too past [] n = refl
asked_too past (l ∷ ls) n = asked_too (commit_of l.top ∷ past) ls n ∙ sym (or_none (asked past n))

granted_too : (past : Past) (more : List Logged) (n : Name) → granted (committed_too past more) n ≡ granted past n
granted_too past [] n = refl
granted_too past (l ∷ ls) n = granted_too (commit_of l.top ∷ past) ls n ∙ sym (or_none (granted past n))

start_too : (past : Past) (more : List Logged) (n : Name) → start (committed_too past more) n ≡ start past n
start_too past [] n = refl
start_too past (l ∷ ls) n = start_too (commit_of l.top ∷ past) ls n ∙ sym (or_none (start past n))

untold_too : (past : Past) (more : List Logged) (g : Grant) → IsUntold past g → IsUntold (committed_too past more) g
untold_too past more g untold = record {
  asked = ap is_some (asked_too past more g.access) ∙ untold.asked;
  not_granted = granted_too past more g.access ∙ untold.not_granted;
}

-- WHAT IS RESTORED

module _ (first : List (List Tuple)) (epoch : ℕ) (setting : Setting) (before now : Kept) (past : Past) (legal : Legal setting past) (s : StandBeside first epoch setting before now past) where
  abbrev was : ℕ → ℕ → Tuple
  was copy rec = restored_tuple before.tops rec (start_tuple first copy rec) (granted_at before copy)

  abbrev pub is : ℕ → ℕ → Tuple
  is copy rec = restored_tuple now.tops rec (start_tuple first copy rec) (granted_at now copy)

  abbrev pub left : ℕ → ℕ → Tuple
  left = left_at setting.base (served_order (committed_too past s.more) [])

  copies : length setting.base ≡ length first
  copies = ap length s.starts ∙ grid_copies (length first) (length setting.firsts) was

  started : (copy rec : ℕ) → copy < length first → rec < length setting.firsts → was copy rec ≡ start_tuple setting.base copy rec
  started copy rec here there = sym (ap (λ base. start_tuple base copy rec) s.starts ∙ grid_at (length first) (length setting.firsts) was copy rec here there)

  pub each : (copy rec : ℕ) → copy < length first → rec < length setting.firsts → is copy rec ≡ left copy rec
  each copy rec here there =
      ap₂ (λ tops given. restored_tuple tops rec (start_tuple first copy rec) given)
      (s.tops ∙ ap (λ ls. before.tops ++ ls) (sym (logged_too past s.more s.next)))
      (s.granted copy here ∙ ap (λ gs. granted_at before copy ++ (gs ++ s.untold copy)) (sym (grants_too past s.more copy)))
      ∙ restores epoch setting (committed_too past s.more) (legal_too setting past s.more legal s.next) (λ x h. s.of_epoch x (ap is_some (sym (start_too past s.more (x ∷ []))) ∙ h))
      before.tops s.old_tops copy rec (start_tuple first copy rec) (granted_at before copy) (s.untold copy) (s.old_grants copy here)
      (All-weaker (IsUntold past) (IsUntold (committed_too past s.more)) (untold_too past s.more) (s.untold copy) (s.are_untold copy here))
      (started copy rec here there)

  same_base : restored first (length setting.firsts) now ≡ left_base setting (served_order (committed_too past s.more) [])
  same_base =
      grids_agree (length first) (length setting.firsts) left is each
      ∙ ap (λ n. grid n (length setting.firsts) left) (sym copies)

  pub restored_sound : (values : List Datum) → IsSound setting values → IsSound (restored_setting first setting now) (final_values values (committed_too past s.more))
  restored_sound values sound =
      subst (λ (base : List (List Tuple)). IsSound (record { firsts = setting.firsts; base = base }) (final_values values (committed_too past s.more))) (sym same_base)
      (left_copies setting values (committed_too past s.more) (legal_too setting past s.more legal s.next) sound)
