-- What a manager has collected, and who replied to it, are told by what it was given.
use Rattle.std.proofs.Common.{◌≡◌, ℕ, ◌<◌, Bool, true, false, List, [], ◌∷◌, length, refl, sym, ap, ap₂, ◌∙◌}
use Rattle.std.specs.Prelude.{Option, None, Some, is_some, filter_map, filter, map, cond, ◌&&◌, ◌||◌, ◌==◌}
use Rattle.std.specs.Option.{option_map}
use Rattle.std.specs.List.{cons_option, list_any}
use Rattle.std.proofs.Math.Path.{fun_ext}
use Rattle.std.proofs.Math.Bool.{and-false, and-true}
use Rattle.qc_config.specs.declared.tuple.Tuple.{Tuple}
use Rattle.qc_event.specs.declared.event.Ask.{Ask}
use Rattle.qc_event.specs.declared.event.Kind.{Kind}
use Rattle.qc_event.specs.declared.event.Phase.{Phase}
use Rattle.qc_event.specs.declared.event.Phase.TheVariants.{Collect}
use Rattle.qc_event.specs.Base.{Setting}
use Rattle.qc_event.specs.Clear.{is_get}
use Rattle.qc_event.specs.History.{Past, Name, Given, asks}
use Rattle.qc_event.specs.Standing.{IsManager}
use Rattle.qc_event.specs.Manager.{phase_of, is_phase, reply, replies, replied, all_copies}
use Rattle.qc_event.specs.Legal.{Legal}
use Rattle.qc_event.proofs.OfPhases.{get_collects}
use Rattle.qc_serial.specs.Visible.{served}
use Rattle.qc_refine.specs.Given.{in_phase, tuples_of, marks_of}
use Rattle.qc_refine.proofs.Managers.KindsBelow.{HasKind}
use Rattle.qc_refine.proofs.Managers.Replies.{given_as}
use Rattle.qc_refine.proofs.Managers.ServedAsked.{given_to, served_asked}

tuples_step : (past : Past) (x : Ask) (b : Bool) (o : Option Tuple) (rest : List Ask) (gs : List Given) → is_get x.op ≡ b → reply past x.access ≡ o → filter_map (λ (ask : Ask). reply past ask.access) rest ≡ tuples_of (in_phase Collect gs)
    → filter_map (λ (ask : Ask). reply past ask.access) (cond (is_get x.op) (x ∷ rest) rest) ≡ tuples_of (in_phase Collect (cons_option (option_map (given_as x) (reply past x.access)) gs))
tuples_step past x true None rest gs get told before =
    ap (λ b. filter_map (λ (ask : Ask). reply past ask.access) (cond b (x ∷ rest) rest)) get
    ∙ ap (λ o. cons_option o (filter_map (λ (ask : Ask). reply past ask.access) rest)) told
    ∙ before
    ∙ ap (λ o. tuples_of (in_phase Collect (cons_option (option_map (given_as x) o) gs))) (sym told)
tuples_step past x true (Some t) rest gs get told before =
    ap (λ b. filter_map (λ (ask : Ask). reply past ask.access) (cond b (x ∷ rest) rest)) get
    ∙ ap (λ o. cons_option o (filter_map (λ (ask : Ask). reply past ask.access) rest)) told
    ∙ ap (λ ts. t ∷ ts) before
    ∙ ap (λ b. tuples_of (cond b (given_as x t ∷ in_phase Collect gs) (in_phase Collect gs))) (sym get ∙ get_collects x.op)
    ∙ ap (λ o. tuples_of (in_phase Collect (cons_option (option_map (given_as x) o) gs))) (sym told)
tuples_step past x false None rest gs get told before =
    ap (λ b. filter_map (λ (ask : Ask). reply past ask.access) (cond b (x ∷ rest) rest)) get
    ∙ before
    ∙ ap (λ o. tuples_of (in_phase Collect (cons_option (option_map (given_as x) o) gs))) (sym told)
tuples_step past x false (Some t) rest gs get told before =
    ap (λ b. filter_map (λ (ask : Ask). reply past ask.access) (cond b (x ∷ rest) rest)) get
    ∙ before
    ∙ ap (λ b. tuples_of (cond b (given_as x t ∷ in_phase Collect gs) (in_phase Collect gs))) (sym get ∙ get_collects x.op)
    ∙ ap (λ o. tuples_of (in_phase Collect (cons_option (option_map (given_as x) o) gs))) (sym told)

tuples_given : (past : Past) (requests : List Ask) → filter_map (λ (ask : Ask). reply past ask.access) (filter (λ (ask : Ask). is_get ask.op) requests) ≡ tuples_of (in_phase Collect (given_to past requests))
tuples_given past [] = refl
tuples_given past (x ∷ requests) = tuples_step past x (is_get x.op) (reply past x.access) (filter (λ (ask : Ask). is_get ask.op) requests) (given_to past requests) refl refl (tuples_given past requests)

abbrev answers_from : Past → ℕ → List Ask → Bool
answers_from past copy requests = list_any (λ (ask : Ask). (ask.copy == copy) && is_some (reply past ask.access)) requests

abbrev is_from : ℕ → List Given → Bool
is_from copy given = list_any (λ (g : Given). g.copy == copy) given

copy_step : (past : Past) (phase : Phase) (copy : ℕ) (x : Ask) (b : Bool) (o : Option Tuple) (rest : List Ask) (gs : List Given) → is_phase phase (phase_of x.op) ≡ b → reply past x.access ≡ o → answers_from past copy rest ≡ is_from copy (in_phase phase gs)
    → answers_from past copy (cond (is_phase phase (phase_of x.op)) (x ∷ rest) rest) ≡ is_from copy (in_phase phase (cons_option (option_map (given_as x) (reply past x.access)) gs))
copy_step past phase copy x true None rest gs here told before =
    ap (λ b. answers_from past copy (cond b (x ∷ rest) rest)) here
    ∙ ap (λ o. ((x.copy == copy) && is_some {T = Tuple} o) || answers_from past copy rest) told
    ∙ ap (λ b. b || answers_from past copy rest) (and-false (x.copy == copy))
    ∙ before
    ∙ ap (λ o. is_from copy (in_phase phase (cons_option (option_map (given_as x) o) gs))) (sym told)
copy_step past phase copy x true (Some t) rest gs here told before =
    ap (λ b. answers_from past copy (cond b (x ∷ rest) rest)) here
    ∙ ap (λ o. ((x.copy == copy) && is_some {T = Tuple} o) || answers_from past copy rest) told
    ∙ ap₂ (λ b c. b || c) (and-true (x.copy == copy)) before
    ∙ ap (λ b. is_from copy (cond b (given_as x t ∷ in_phase phase gs) (in_phase phase gs))) (sym here)
    ∙ ap (λ o. is_from copy (in_phase phase (cons_option (option_map (given_as x) o) gs))) (sym told)
copy_step past phase copy x false None rest gs here told before =
    ap (λ b. answers_from past copy (cond b (x ∷ rest) rest)) here
    ∙ before
    ∙ ap (λ o. is_from copy (in_phase phase (cons_option (option_map (given_as x) o) gs))) (sym told)
copy_step past phase copy x false (Some t) rest gs here told before =
    ap (λ b. answers_from past copy (cond b (x ∷ rest) rest)) here
    ∙ before
    ∙ ap (λ b. is_from copy (cond b (given_as x t ∷ in_phase phase gs) (in_phase phase gs))) (sym here)
    ∙ ap (λ o. is_from copy (in_phase phase (cons_option (option_map (given_as x) o) gs))) (sym told)

copies_given : (past : Past) (phase : Phase) (copy : ℕ) (requests : List Ask) → answers_from past copy (filter (λ (ask : Ask). is_phase phase (phase_of ask.op)) requests) ≡ is_from copy (in_phase phase (given_to past requests))
copies_given past phase copy [] = refl
copies_given past phase copy (x ∷ requests) =
    copy_step past phase copy x (is_phase phase (phase_of x.op)) (reply past x.access) (filter (λ (ask : Ask). is_phase phase (phase_of ask.op)) requests) (given_to past requests) refl refl (copies_given past phase copy requests)

module _ (setting : Setting) (past : Past) (m : Name) (k : Kind) (legal : Legal setting past) (pos : 0 < length m) (has : HasKind past m k) (manager : IsManager k) where
  pub replies_served : replies past m ≡ tuples_of (in_phase Collect (served past m))
  replies_served = tuples_given past (asks past m) ∙ ap (λ gs. tuples_of (in_phase Collect gs)) (sym (served_asked setting past m k legal pos has manager))

  pub replied_served : (phase : Phase) → replied past m phase ≡ marks_of (in_phase phase (served past m))
  replied_served phase =
      ap (λ f. map f all_copies) (fun_ext (λ copy. copies_given past phase copy (asks past m)))
      ∙ ap (λ gs. marks_of (in_phase phase gs)) (sym (served_asked setting past m k legal pos has manager))
