-- Over sound start tuples, a copy that is not there grants no live access: each live grant is at a copy that is
-- there, and tells no configuration of generation 0 but the first.
use Rattle.std.proofs.Common.{◌≡◌, ℕ, ◌<◌, ◌≤◌, ◌==◌, ◌&&◌, Bool, true, false, List, [], ◌∷◌, ◌++◌, length, refl, sym, ap, ◌∙◌, subst, inl, inr, ◌⊎◌, arith, map, get_or}
use Rattle.std.specs.Prelude.{Option, None, Some, is_some, is_none, MatchOption, filter, cond, nat_lt, option_to_list, if◌then◌else◌}
use Rattle.std.proofs.lemmas.Bool.{ltb-false, leb-true}
use Rattle.std.proofs.lemmas.List.{get_or_past}
use Rattle.std.proofs.lemmas.Option.{same_Some}
use Rattle.qc_names.specs.Name as name
use Rattle.qc_config.specs.Config.{Voting, weight, holds_read}
use Rattle.qc_config.specs.Tuple.{after}
use Rattle.qc_config.specs.declared.tuple.Op.{Op}
use Rattle.qc_config.specs.declared.tuple.Op.TheVariants.{Get, PutData, PutConfig}
use Rattle.qc_config.specs.declared.tuple.Tuple.{Tuple}
use Rattle.qc_event.specs.declared.event.Ask.{Ask}
use Rattle.qc_event.specs.declared.event.Entry.{Entry}
use Rattle.qc_event.specs.declared.event.Event.{Event}
use Rattle.qc_event.specs.declared.event.Event.TheVariants as event
use Rattle.qc_event.specs.declared.event.Grant.{Grant}
use Rattle.qc_event.specs.declared.event.Kind.{Kind}
use Rattle.qc_event.specs.declared.event.Kind.TheVariants as kind
use Rattle.qc_event.specs.Base.{Setting, first_of, no_tuple, start_tuple}
use Rattle.qc_event.specs.Dead.{dead}
use Rattle.qc_event.specs.History.{Past, Name, Begun, Given, Asked, same, start, asked, ask_in, ask_below, granted, grants, is_child}
use Rattle.qc_event.specs.Legal.{Legal}
use Rattle.qc_event.specs.Manager.{Newest, Greatest, newer, record_of, first_for, all_copies}
use Rattle.qc_event.specs.Requests.{MayAsk}
use Rattle.qc_event.specs.Seen.{is_live_at, changed_by}
use Rattle.qc_event.specs.Standing.{IsManager}
use Rattle.qc_event.proofs.Absent.{same_is}
use Rattle.qc_event.proofs.LastNumber.{EndsIn, ends_in, front_last, is_child-last}
use Rattle.qc_event.proofs.Lawful.{Lawful, lawful}
use Rattle.qc_event.proofs.LegalOrderly.{legal_orderly}
use Rattle.qc_event.proofs.OneEntry.{if_is}
use Rattle.qc_event.proofs.Orderly.{Belongs}
use Rattle.qc_event.proofs.Sizes.{AllSized, newest_sized}
use Rattle.qc_serial.specs.Visible.{served}
use Rattle.qc_refine.specs.Given.{tuples_of, marks_of}
use Rattle.qc_refine.proofs.Managers.AskedInOrder.{OfStage, of_stage}
use Rattle.qc_refine.proofs.Managers.Finished.{is_started}
use Rattle.qc_refine.proofs.Order.Grounded.{OfFirst}
use Rattle.qc_refine.proofs.Managers.KindsBelow.{HasKind, Below, below}
use Rattle.qc_refine.proofs.Managers.LastOpen.{Asks, may_ask}
use Rattle.qc_refine.proofs.Managers.Stages.{newest_among, put_op, move_op, Moves}

-- LISTS

-- what holds of each element
abbrev pub Every : {X : Type 0} → (X → Type 0) → List X → Type 0
Every P [] = Unit {0}
Every P (x ∷ xs) = P x × Every P xs

pub every_more : {X : Type 0} (P : X → Type 0) (xs ys : List X) → Every P xs → Every P ys → Every P (xs ++ ys)
every_more P [] ys all rest = rest
every_more P (x ∷ xs) ys all rest = (all.0, every_more P xs ys all.1 rest)

pub every_weaker : {X : Type 0} (P Q : X → Type 0) (xs : List X) → ((x : X) → P x → Q x) → Every P xs → Every Q xs
every_weaker P Q [] weaker all = tt
every_weaker P Q (x ∷ xs) weaker all = (weaker x all.0, every_weaker P Q xs weaker all.1)

pub every_option : {X : Type 0} (P : X → Type 0) (o : Option X) → ((x : X) → o ≡ Some x → P x) → Every P (option_to_list o)
every_option P None each = tt
every_option P (Some x) each = (each x refl, tt)

-- THE NEWEST CONFIGURATION

-- of some tuples, each with the first configuration where its generation is 0, all for this many copies
pub newest_known : (size : ℕ) (first : Voting) (tuples : List Tuple) → AllSized size tuples → Every (OfFirst first) tuples → (tuples ≡ [] → ⊥) → length (newest_among first tuples).config.votes ≡ size
newest_known size first [] sized of some = absurd (some refl)
newest_known size first (t ∷ tuples) sized of some =
    newest_sized size (newer (record { generation = 0; config = first }) t) tuples (by_test (record { generation = 0; config = first }) refl (nat_lt 0 t.generation) refl) sized.1
  where
    by_test : (none : Newest) → none.config ≡ first → (b : Bool) → nat_lt 0 t.generation ≡ b → length (if b then record { generation = t.generation; config = t.config } else none).config.votes ≡ size
    by_test none begins true is = sized.0
    by_test none begins false is =
        let low : t.generation ≤ 0 = ltb-false 0 t.generation is in
        let zeroth : t.generation ≡ 0 = omega arith in
        ap (λ (c : Voting). length c.votes) (begins ∙ sym (of.0 zeroth)) ∙ sized.0

none_weigh : (votes copies : List ℕ) → weight votes (map (λ c. false) copies) ≡ 0
none_weigh [] copies = refl
none_weigh (v ∷ votes) [] = refl
none_weigh (v ∷ votes) (c ∷ copies) = let rest = none_weigh votes copies in omega arith

-- who has a read quorum has collected something
pub some_got : (first : Voting) (gs : List Given) → 0 < first.read → holds_read (newest_among first (tuples_of gs)).config (marks_of gs) ≡ true → tuples_of gs ≡ [] → ⊥
some_got first [] reads enough none =
    let held : first.read ≤ weight first.votes (map (λ c. false) all_copies) = leb-true first.read (weight first.votes (map (λ c. false) all_copies)) enough in
    omega (arith, held, none_weigh first.votes all_copies)
some_got first (g ∷ gs) reads enough none = cc

-- OPERATIONS

abbrev pub NewGeneration : Op → Type 0
NewGeneration (PutConfig generation config) = 0 < generation
NewGeneration _ = Unit {0}

abbrev pub AskFits : Setting → ℕ → Op → Type 0
AskFits setting copy (PutConfig generation config) = (0 < generation) × (copy < length setting.base)
AskFits setting copy _ = Unit {0}

pub new_generation : (setting : Setting) (copy : ℕ) (op : Op) → AskFits setting copy op → NewGeneration op
new_generation setting copy Get fits = tt
new_generation setting copy (PutData version value) fits = tt
new_generation setting copy (PutConfig generation config) fits = fits.0

pub put_fits : (setting : Setting) (copy : ℕ) (k : Kind) (found : Greatest) → AskFits setting copy (put_op k found)
put_fits setting copy (kind.Write rec value) found = tt
put_fits setting copy (kind.Reconf rec config) found = tt
put_fits setting copy (kind.Read rec) found = tt
put_fits setting copy (kind.User session body) found = tt
put_fits setting copy kind.Access found = tt

pub move_fits : (setting : Setting) (copy : ℕ) (k : Kind) (now : Newest) → Moves k → copy < length setting.base → AskFits setting copy (move_op k now)
move_fits setting copy (kind.Reconf rec config) now moves there = (omega arith, there)
move_fits setting copy (kind.Read rec) now moves there = absurd moves
move_fits setting copy (kind.Write rec value) now moves there = absurd moves
move_fits setting copy (kind.User session body) now moves there = absurd moves
move_fits setting copy kind.Access now moves there = absurd moves

pub after_first : (first : Voting) (t : Tuple) (op : Op) → OfFirst first t → NewGeneration op → OfFirst first (after t op)
after_first first t Get of new = of
after_first first t (PutData version value) of new = of
after_first first t (PutConfig generation config) of new = λ zeroth. absurd (omega arith)

-- where there is no copy, only a configuration is granted
pub no_place : (setting : Setting) (copy : ℕ) (op : Op) → 0 < length setting.base → length setting.base ≤ copy → AskFits setting copy op → length (after no_tuple op).config.votes ≡ length setting.base → ⊥
no_place setting copy Get some out fits sized = omega arith
no_place setting copy (PutData version value) some out fits sized = omega arith
no_place setting copy (PutConfig generation config) some out fits sized = let there = fits.1 in omega arith

-- WHAT A COPY HOLDS

-- a live grant is at a copy that is there, and its generation is new
abbrev pub LiveAt : Setting → Past → ℕ → Grant → Type 0
LiveAt setting past copy g = dead past g.access ≡ None → (copy < length setting.base) × NewGeneration g.op

pub seen_first : (setting : Setting) (past : Past) (copy rec : ℕ) (first : Voting) (t : Tuple) (gs : List Grant) → Every (LiveAt setting past copy) gs → OfFirst first t → OfFirst first (changed_by t (filter (is_live_at past rec) gs))
seen_first setting past copy rec first t [] all of = of
seen_first setting past copy rec first t (g ∷ gs) all of = by_test (λ u from. seen_first setting past copy rec first u gs all.1 from) (g.rec == rec) (dead past g.access) refl
  where
    by_test : ((u : Tuple) → OfFirst first u → OfFirst first (changed_by u (filter (is_live_at past rec) gs))) → (b : Bool) (o : Option Name) → dead past g.access ≡ o
        → OfFirst first (changed_by t (cond (b && is_none o) (g ∷ filter (is_live_at past rec) gs) (filter (is_live_at past rec) gs)))
    by_test rest false o is = rest t of
    by_test rest true (Some a) is = rest t of
    by_test rest true None is = rest (after t g.op) (after_first first t g.op of (all.0 is).1)

pub seen_none : (setting : Setting) (past : Past) (copy rec : ℕ) (t : Tuple) (gs : List Grant) → Every (LiveAt setting past copy) gs → length setting.base ≤ copy → changed_by t (filter (is_live_at past rec) gs) ≡ t
seen_none setting past copy rec t [] all out = refl
seen_none setting past copy rec t (g ∷ gs) all out = by_test (seen_none setting past copy rec t gs all.1 out) (g.rec == rec) (dead past g.access) refl
  where
    by_test : changed_by t (filter (is_live_at past rec) gs) ≡ t → (b : Bool) (o : Option Name) → dead past g.access ≡ o → changed_by t (cond (b && is_none o) (g ∷ filter (is_live_at past rec) gs) (filter (is_live_at past rec) gs)) ≡ t
    by_test rest false o is = rest
    by_test rest true (Some a) is = rest
    by_test rest true None is = absurd (let there = (all.0 is).0 in omega arith)

pub nothing_there : (base : List (List Tuple)) (copy rec : ℕ) → length base ≤ copy → start_tuple base copy rec ≡ no_tuple
nothing_there base copy rec out = ap (λ row. get_or row rec no_tuple) (get_or_past base copy [] out)

-- WHAT A LEGAL HISTORY KEEPS

-- what a manager was given is from copies that are there
pub record IsThere (setting : Setting) (k : Kind) (g : Given) : Type 0 where
  pub there : g.copy < length setting.base
  pub of_record : g.grant.rec ≡ record_of k
  pub of_first : OfFirst (first_for setting k) g.grant.tuple

pub record Kept (setting : Setting) (past : Past) : Type 0 where
  pub table : (n : Name) (a : Asked) → asked past n ≡ Some a → a.ask.rec < length setting.firsts
  pub fits : (n : Name) (a : Asked) → asked past n ≡ Some a → AskFits setting a.ask.copy a.ask.op
  pub same_record : (m n : Name) (k : Kind) (a : Asked) → 0 < length m → HasKind past m k → IsManager k → is_child m n ≡ true → asked past n ≡ Some a → a.ask.rec ≡ record_of k
  pub live : (copy : ℕ) → Every (LiveAt setting past copy) (grants past copy)
  pub good : (n : Name) (g : Given) → granted past n ≡ Some g → dead past n ≡ None → (g.copy < length setting.base) × OfFirst (first_of setting g.grant.rec) g.grant.tuple
  pub given : (m : Name) (k : Kind) → 0 < length m → HasKind past m k → IsManager k → Every (IsThere setting k) (served past m)

-- the manager of a request
pub record IsAskedBy (setting : Setting) (past : Past) (ask : Ask) : Type 0 where
  pub m : Name
  pub b : Begun
  pub pos : 0 < length m
  pub began : start past m ≡ Some b
  pub manager : IsManager b.kind
  pub child : is_child m ask.access ≡ true
  pub of : OfStage setting past m b.kind ask

-- the request of an access, where the event is it
pub asking : (n : Name) (seat : ℕ) (ev : Event) (a : Asked) → ask_in n seat ev ≡ Some a → (ev ≡ event.Ask a.ask) × (a.ask.access ≡ n)
asking n seat (event.Ask ask) a is =
    let parts = if_is (same ask.access n) (record { seat = seat; ask = ask }) a is in
    (ap (λ (x : Asked). event.Ask x.ask) parts.1, ap (λ (x : Asked). x.ask.access) (sym parts.1) ∙ same_is ask.access n parts.0)
asking n seat _ a is = absurd cc

module _ (setting : Setting) (past : Past) (e : Entry) (legal : Legal setting (e ∷ past)) where
  law : Lawful past
  law = lawful past (legal_orderly setting past legal.0)

  pub asked_by : (ask : Ask) → e.event ≡ event.Ask ask → IsAskedBy setting past ask
  asked_by ask is = by_start (start past ask.access) refl (start past (name.front ask.access)) refl may.started may.manager_started (ends_in ask.access)
    where
      may : MayAsk setting past e.seat ask
      may = may_ask setting past e ask legal is

      under : (p : Name) (j : ℕ) (a b : Begun) → ask.access ≡ p ++ j ∷ [] → start past ask.access ≡ Some a → a.kind ≡ kind.Access → start past p ≡ Some b → IsAskedBy setting past ask
      under p j a b last here access there =
          let s = is_started setting past p b legal.0 there in
          let child : is_child p ask.access ≡ true = ap (is_child p) last ∙ is_child-last p j in
          let u : Below past p ask.access = below past p ask.access law s.below_root child (ap is_some here) in
          let as_access : u.child.kind ≡ kind.Access = ap (λ (x : Begun). x.kind) (same_Some u.child a (sym u.child_start ∙ here)) ∙ access in
          let above : IsManager u.parent.kind = subst (Belongs u.parent) as_access u.belongs in
          let manager : IsManager b.kind = subst (λ (x : Begun). IsManager x.kind) (same_Some u.parent b (sym u.parent_start ∙ there)) above in
          let new : Asks p e.event = record { ask = ask; is = is; child = child; adds = ap (ask_below p) is ∙ ap (λ t. if t then Some ask else None) child } in
          record {
            m = p;
            b = b;
            pos = s.below_root;
            began = there;
            manager = manager;
            child = child;
            of = of_stage setting past e p b.kind legal s.below_root s.has manager new;
          }

      by_start : (o : Option Begun) → start past ask.access ≡ o → (q : Option Begun) → start past (name.front ask.access) ≡ q → MatchOption o ⊥ (λ a. (a.seat ≡ e.seat) × (a.kind ≡ kind.Access)) → MatchOption q ⊥ (λ m. m.seat ≡ e.seat) → (ask.access ≡ []) ⊎ EndsIn ask.access → IsAskedBy setting past ask
      by_start None here q there access manager ends = absurd access
      by_start (Some a) here None there access manager ends = absurd manager
      by_start (Some a) here (Some b) there access manager (inl root) = absurd (let none = ap (start past) root ∙ law.no_root_start in let differ = sym none ∙ here in cc)
      by_start (Some a) here (Some b) there access manager (inr (p, j, last)) =
          under p j a b last here access.1 (ap (start past) (sym (ap name.front last ∙ front_last p j)) ∙ there)
