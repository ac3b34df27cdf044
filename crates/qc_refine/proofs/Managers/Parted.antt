-- What a manager was given stands phase by phase: gets, then values, then configurations, each of the operation
-- that the collection gives.
use Rattle.std.proofs.Common.{◌≡◌, ◌<◌, true, false, List, [], ◌∷◌, ◌++◌, length, refl, sym, ap, ap₂, ◌∙◌, subst, inl, inr, ◌⊎◌, append-nil}
use Rattle.std.specs.Prelude.{Option, None, Some, cond}
use Rattle.std.specs.Option.{option_map}
use Rattle.std.specs.List.{cons_option}
use Rattle.std.proofs.lemmas.List.Elements.{filter-append, filter_map-append}
use Rattle.qc_config.specs.Config.{Voting}
use Rattle.qc_config.specs.declared.tuple.Op.{Op}
use Rattle.qc_config.specs.declared.tuple.Op.TheVariants.{Get}
use Rattle.qc_config.specs.declared.tuple.Tuple.{Tuple}
use Rattle.qc_event.specs.declared.event.Ask.{Ask}
use Rattle.qc_event.specs.declared.event.Kind.{Kind}
use Rattle.qc_event.specs.declared.event.Phase.{Phase}
use Rattle.qc_event.specs.declared.event.Phase.TheVariants.{Collect, Values, Configs}
use Rattle.qc_event.specs.Base.{Setting}
use Rattle.qc_event.specs.History.{Past, Name, Given, asks}
use Rattle.qc_event.specs.Standing.{IsManager}
use Rattle.qc_event.specs.Manager.{phase_of, is_phase, reply, replies, replied, newest, greatest, greatest_among, first_for}
use Rattle.qc_event.specs.Legal.{Legal}
use Rattle.qc_serial.specs.Visible.{served}
use Rattle.qc_refine.specs.Given.{in_phase, tuples_of, marks_of, AllDo}
use Rattle.qc_refine.proofs.Managers.KindsBelow.{HasKind}
use Rattle.qc_refine.proofs.Managers.Replies.{given_as}
use Rattle.qc_refine.proofs.Managers.ServedAsked.{given_to, served_asked}
use Rattle.qc_refine.proofs.Managers.Gathered.{replies_served, replied_served}
use Rattle.qc_refine.proofs.Managers.Stages.{newest_among, put_op, move_op, put_phase, move_phase, Puts, Moves}
use Rattle.qc_refine.proofs.Managers.Shapes.{AllAsk, ShapeAfter}
use Rattle.qc_refine.proofs.Managers.AskedInOrder.{going}

-- what a manager was given, phase by phase
pub record IsParted (past : Past) (first : Voting) (m : Name) (k : Kind) : Type 0 where
  pub gets : List Given
  pub puts : List Given
  pub configs : List Given
  pub parts : served past m ≡ gets ++ (puts ++ configs)
  pub all_get : AllDo Get gets
  pub same_replies : replies past m ≡ tuples_of gets
  pub get_copies : replied past m Collect ≡ marks_of gets
  pub all_put : AllDo (put_op k (greatest past m)) puts
  pub put_copies : replied past m Values ≡ marks_of puts
  pub all_move : AllDo (move_op k (newest past first m)) configs
  pub move_copies : replied past m Configs ≡ marks_of configs
  pub only_puts : (puts ≡ []) ⊎ Puts k
  pub only_moves : (configs ≡ []) ⊎ Moves k

-- the grants of one operation are of its phase
phase_all : (phase : Phase) (op : Op) (given : List Given) → AllDo op given → is_phase phase (phase_of op) ≡ true → in_phase phase given ≡ given
phase_all phase op [] all is = refl
phase_all phase op (g ∷ given) all is =
    ap (λ b. cond b (g ∷ in_phase phase given) (in_phase phase given)) (ap (λ o. is_phase phase (phase_of o)) all.0 ∙ is)
    ∙ ap (λ gs. g ∷ gs) (phase_all phase op given all.1 is)

phase_none : (phase : Phase) (op : Op) (given : List Given) → AllDo op given → is_phase phase (phase_of op) ≡ false → in_phase phase given ≡ []
phase_none phase op [] all is = refl
phase_none phase op (g ∷ given) all is =
    ap (λ b. cond b (g ∷ in_phase phase given) (in_phase phase given)) (ap (λ o. is_phase phase (phase_of o)) all.0 ∙ is)
    ∙ phase_none phase op given all.1 is

phase_parts : (phase : Phase) (xs ys zs : List Given) → in_phase phase (xs ++ (ys ++ zs)) ≡ in_phase phase xs ++ (in_phase phase ys ++ in_phase phase zs)
phase_parts phase xs ys zs =
    filter-append (λ (g : Given). is_phase phase (phase_of g.grant.op)) xs (ys ++ zs)
    ∙ ap (λ r. in_phase phase xs ++ r) (filter-append (λ (g : Given). is_phase phase (phase_of g.grant.op)) ys zs)

three : (a b c x y z : List Given) → a ≡ x → b ≡ y → c ≡ z → a ++ (b ++ c) ≡ x ++ (y ++ z)
three a b c x y z p q r = ap₂ (λ s t. s ++ t) p (ap₂ (λ s t. s ++ t) q r)

-- what requests of one operation were given is of that operation
all_given : (past : Past) (op : Op) (requests : List Ask) → AllAsk op requests → AllDo op (given_to past requests)
all_given past op [] all = tt
all_given past op (a ∷ rest) all = step (reply past a.access) (all_given past op rest all.1)
  where
    step : (o : Option Tuple) → AllDo op (given_to past rest) → AllDo op (cons_option (option_map (given_as a) o) (given_to past rest))
    step None before = before
    step (Some t) before = (all.0, before)

module _ (setting : Setting) (past : Past) (m : Name) (k : Kind) (legal : Legal setting past) (pos : 0 < length m) (has : HasKind past m k) (manager : IsManager k) where
  by_shape : ShapeAfter (first_for setting k) k (served past m) (asks past m) → IsParted past (first_for setting k) m k
  by_shape s = record {
    gets = gets;
    puts = puts;
    configs = configs;
    parts = parts;
    all_get = get;
    same_replies = replies_served setting past m k legal pos has manager ∙ ap tuples_of of_gets;
    get_copies = replied_served setting past m k legal pos has manager Collect ∙ ap marks_of of_gets;
    all_put = subst (λ ts. AllDo (put_op k (greatest_among ts)) puts) (sym (replies_served setting past m k legal pos has manager)) put;
    put_copies = replied_served setting past m k legal pos has manager Values ∙ ap marks_of of_puts;
    all_move = subst (λ ts. AllDo (move_op k (newest_among (first_for setting k) ts)) configs) (sym (replies_served setting past m k legal pos has manager)) move;
    move_copies = replied_served setting past m k legal pos has manager Configs ∙ ap marks_of of_configs;
    only_puts = elim s.only_puts [ inl none ↦ inl (ap (given_to past) none) | inr puts ↦ inr puts ];
    only_moves = elim s.only_moves [ inl none ↦ inl (ap (given_to past) none) | inr moves ↦ inr moves ];
  }
    where
      gets : List Given
      gets = given_to past s.gets

      puts : List Given
      puts = given_to past s.puts

      configs : List Given
      configs = given_to past s.configs

      parts : served past m ≡ gets ++ (puts ++ configs)
      parts =
          served_asked setting past m k legal pos has manager
          ∙ ap (given_to past) s.parts
          ∙ filter_map-append _ s.gets (s.puts ++ s.configs)
          ∙ ap (λ r. gets ++ r) (filter_map-append _ s.puts s.configs)

      get : AllDo Get gets
      get = all_given past Get s.gets s.all_gets

      put : AllDo (put_op k (greatest_among (tuples_of (in_phase Collect (served past m))))) puts
      put = all_given past _ s.puts s.all_puts

      move : AllDo (move_op k (newest_among (first_for setting k) (tuples_of (in_phase Collect (served past m))))) configs
      move = all_given past _ s.configs s.all_configs

      of_put : (phase : Phase) → is_phase phase (phase_of (put_op k (greatest_among (tuples_of (in_phase Collect (served past m)))))) ≡ is_phase phase Values
      of_put phase = ap (is_phase phase) (put_phase k _)

      of_move : (phase : Phase) → is_phase phase (phase_of (move_op k (newest_among (first_for setting k) (tuples_of (in_phase Collect (served past m)))))) ≡ is_phase phase Configs
      of_move phase = ap (is_phase phase) (move_phase k _)

      of_gets : in_phase Collect (served past m) ≡ gets
      of_gets =
          ap (in_phase Collect) parts ∙ phase_parts Collect gets puts configs
          ∙ three _ _ _ gets [] [] (phase_all Collect Get gets get refl) (phase_none Collect _ puts put (of_put Collect)) (phase_none Collect _ configs move (of_move Collect))
          ∙ append-nil gets

      of_puts : in_phase Values (served past m) ≡ puts
      of_puts =
          ap (in_phase Values) parts ∙ phase_parts Values gets puts configs
          ∙ three _ _ _ [] puts [] (phase_none Values Get gets get refl) (phase_all Values _ puts put (of_put Values)) (phase_none Values _ configs move (of_move Values))
          ∙ append-nil puts

      of_configs : in_phase Configs (served past m) ≡ configs
      of_configs =
          ap (in_phase Configs) parts ∙ phase_parts Configs gets puts configs
          ∙ three _ _ _ [] [] configs (phase_none Configs Get gets get refl) (phase_none Configs _ puts put (of_put Configs)) (phase_all Configs _ configs move (of_move Configs))

  pub parted : IsParted past (first_for setting k) m k
  parted = by_shape (going setting past m k legal pos has manager).shape
