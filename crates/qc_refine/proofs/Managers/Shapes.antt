-- Requests that each are of the stage at their time stand phase by phase: gets, then values, then configurations.
use Rattle.std.proofs.Common.{◌≡◌, Bool, true, false, List, [], ◌∷◌, ◌++◌, refl, sym, ap, ◌∙◌, subst, inl, inr, ◌⊎◌, append-nil, append_assoc}
use mathlib.Core.Bool.{true≢false}
use Rattle.std.specs.Prelude.{cond}
use Rattle.std.proofs.lemmas.List.Elements.{filter-append}
use Rattle.qc_config.specs.Config.{Voting, holds_read, holds_write}
use Rattle.qc_config.specs.declared.tuple.Op.{Op}
use Rattle.qc_config.specs.declared.tuple.Op.TheVariants.{Get}
use Rattle.qc_event.specs.declared.event.Ask.{Ask}
use Rattle.qc_event.specs.declared.event.Kind.{Kind}
use Rattle.qc_event.specs.declared.event.Phase.{Phase}
use Rattle.qc_event.specs.declared.event.Phase.TheVariants.{Collect, Values, Configs}
use Rattle.qc_event.specs.History.{Given}
use Rattle.qc_event.specs.Manager.{Stage, Newest, Greatest, phase_of, is_phase, greatest_among}
use Rattle.qc_refine.specs.Given.{in_phase, tuples_of, marks_of}
use Rattle.qc_refine.proofs.Managers.Stages.{newest_among, put_op, move_op, put_phase, move_phase, put_config, Puts, Moves, IsCollecting, IsPutting, IsMoving, IsAtStage}

-- the marks of grants, phase by phase
abbrev pub marks_in : List Given → Phase → List Bool
marks_in given phase = marks_of (in_phase phase given)

-- the newest configuration and the greatest version of collected grants
abbrev pub now_in : Voting → List Given → Newest
now_in first collected = newest_among first (tuples_of collected)

abbrev pub found_in : List Given → Greatest
found_in collected = greatest_among (tuples_of collected)

-- each request is of one operation
abbrev pub AllAsk : Op → List Ask → Type 0
AllAsk op [] = Unit {0}
AllAsk op (a ∷ rest) = (a.op ≡ op) × AllAsk op rest

all_ask_more : (op : Op) (rest : List Ask) (ask : Ask) → AllAsk op rest → ask.op ≡ op → AllAsk op (rest ++ ask ∷ [])
all_ask_more op [] ask all is = (is, tt)
all_ask_more op (a ∷ rest) ask all is = (all.0, all_ask_more op rest ask all.1 is)

-- Requests, phase by phase, by what was collected and what was put: values follow where the collection is
-- enough, and configurations where the values are.
pub record Shape (first : Voting) (k : Kind) (collected put : List Given) (requests : List Ask) : Type 0 where
  pub gets : List Ask
  pub puts : List Ask
  pub configs : List Ask
  pub parts : requests ≡ gets ++ (puts ++ configs)
  pub all_gets : AllAsk Get gets
  pub all_puts : AllAsk (put_op k (found_in collected)) puts
  pub all_configs : AllAsk (move_op k (now_in first collected)) configs
  pub enough : (puts ++ configs ≡ []) ⊎ (holds_read (now_in first collected).config (marks_of collected) ≡ true)
  pub written : (configs ≡ []) ⊎ (holds_write (put_config k (now_in first collected)) (marks_of put) ≡ true)
  pub only_puts : (puts ≡ []) ⊎ Puts k
  pub only_moves : (configs ≡ []) ⊎ Moves k

-- a list of grants, and the stage that it leads to
abbrev pub LeadsTo : Voting → Kind → List Given → Stage → Type 0
LeadsTo first k given s = IsAtStage k (now_in first (in_phase Collect given)) (found_in (in_phase Collect given)) (marks_in given) s

abbrev pub ShapeAfter : Voting → Kind → List Given → List Ask → Type 0
ShapeAfter first k given requests = Shape first k (in_phase Collect given) (in_phase Values given) requests

unless : {A : Type 0} (b : Bool) → A ⊎ (b ≡ true) → b ≡ false → A
unless b (inl a) short = a
unless b (inr enough) short = absurd (true≢false (sym enough ∙ short))

-- A FURTHER REQUEST

module _ (first : Voting) (k : Kind) (given : List Given) (requests : List Ask) (s : Stage) (shape : ShapeAfter first k given requests) where
  ask_get : (ask : Ask) → IsCollecting (now_in first (in_phase Collect given)) (marks_in given) s → ask.op ≡ s.op → ShapeAfter first k given (requests ++ ask ∷ [])
  ask_get ask c same =
      let empty : shape.puts ++ shape.configs ≡ [] = unless _ shape.enough c.short in
      record {
        gets = shape.gets ++ ask ∷ [];
        puts = [];
        configs = [];
        parts = ap (λ r. r ++ ask ∷ []) (shape.parts ∙ ap (λ r. shape.gets ++ r) empty ∙ append-nil shape.gets) ∙ sym (append-nil (shape.gets ++ ask ∷ []));
        all_gets = all_ask_more Get shape.gets ask shape.all_gets (same ∙ ap (λ (x : Stage). x.op) (sym c.is));
        all_puts = tt;
        all_configs = tt;
        enough = inl refl;
        written = inl refl;
        only_puts = inl refl;
        only_moves = inl refl;
      }

  ask_put : (ask : Ask) → IsPutting k (now_in first (in_phase Collect given)) (found_in (in_phase Collect given)) (marks_in given) s → ask.op ≡ s.op → ShapeAfter first k given (requests ++ ask ∷ [])
  ask_put ask p same =
      let none : shape.configs ≡ [] = unless _ shape.written p.short in
      record {
        gets = shape.gets;
        puts = shape.puts ++ ask ∷ [];
        configs = [];
        parts =
            ap (λ r. r ++ ask ∷ []) (shape.parts ∙ ap (λ r. shape.gets ++ (shape.puts ++ r)) none ∙ ap (λ r. shape.gets ++ r) (append-nil shape.puts))
            ∙ append_assoc shape.gets shape.puts (ask ∷ [])
            ∙ ap (λ r. shape.gets ++ r) (sym (append-nil (shape.puts ++ ask ∷ [])));
        all_gets = shape.all_gets;
        all_puts = all_ask_more _ shape.puts ask shape.all_puts (same ∙ ap (λ (x : Stage). x.op) (sym p.is));
        all_configs = tt;
        enough = inr p.enough;
        written = inl refl;
        only_puts = inr p.puts;
        only_moves = inl refl;
      }

  ask_move : (ask : Ask) → IsMoving k (now_in first (in_phase Collect given)) (marks_in given) s → ask.op ≡ s.op → ShapeAfter first k given (requests ++ ask ∷ [])
  ask_move ask m same = record {
    gets = shape.gets;
    puts = shape.puts;
    configs = shape.configs ++ ask ∷ [];
    parts =
        ap (λ r. r ++ ask ∷ []) shape.parts
        ∙ append_assoc shape.gets (shape.puts ++ shape.configs) (ask ∷ [])
        ∙ ap (λ r. shape.gets ++ r) (append_assoc shape.puts shape.configs (ask ∷ []));
    all_gets = shape.all_gets;
    all_puts = shape.all_puts;
    all_configs = all_ask_more _ shape.configs ask shape.all_configs (same ∙ ap (λ (x : Stage). x.op) (sym m.is));
    enough = inr m.enough;
    written = inr m.written;
    only_puts = shape.only_puts;
    only_moves = inr m.moves;
  }

  -- one more request, of the stage
  pub shape_ask : (ask : Ask) → LeadsTo first k given s → ask.op ≡ s.op → ShapeAfter first k given (requests ++ ask ∷ [])
  shape_ask ask leads same = elim leads [
    | inl c ↦ ask_get ask c same
    | inr rest ↦ elim rest [ inl p ↦ ask_put ask p same | inr m ↦ ask_move ask m same ]
  ]

-- A FURTHER GRANT

-- a grant of another phase changes nothing in this one
pub other_phase : (phase own : Phase) (given : List Given) (g : Given) → phase_of g.grant.op ≡ own → is_phase phase own ≡ false → in_phase phase (given ++ g ∷ []) ≡ in_phase phase given
other_phase phase own given g of other =
    filter-append (λ (x : Given). is_phase phase (phase_of x.grant.op)) given (g ∷ [])
    ∙ ap (λ b. in_phase phase given ++ cond b (g ∷ []) []) (ap (is_phase phase) of ∙ other)
    ∙ append-nil (in_phase phase given)

module _ (first : Voting) (k : Kind) (given : List Given) (requests : List Ask) (s : Stage) (shape : ShapeAfter first k given requests) (g : Given) where
  given_get : IsCollecting (now_in first (in_phase Collect given)) (marks_in given) s → ShapeAfter first k (given ++ g ∷ []) requests
  given_get c =
      let empty : shape.puts ++ shape.configs ≡ [] = unless _ shape.enough c.short in
      record {
        gets = shape.gets;
        puts = [];
        configs = [];
        parts = shape.parts ∙ ap (λ r. shape.gets ++ r) empty;
        all_gets = shape.all_gets;
        all_puts = tt;
        all_configs = tt;
        enough = inl refl;
        written = inl refl;
        only_puts = inl refl;
        only_moves = inl refl;
      }

  -- where no configuration was asked for yet, it does not matter what was put
  put_more : shape.configs ≡ [] → (put : List Given) → Shape first k (in_phase Collect given) put requests
  put_more none put = record {
    gets = shape.gets;
    puts = shape.puts;
    configs = [];
    parts = shape.parts ∙ ap (λ r. shape.gets ++ (shape.puts ++ r)) none;
    all_gets = shape.all_gets;
    all_puts = shape.all_puts;
    all_configs = tt;
    enough = elim shape.enough [ inl empty ↦ inl (ap (λ r. shape.puts ++ r) (sym none) ∙ empty) | inr enough ↦ inr enough ];
    written = inl refl;
    only_puts = shape.only_puts;
    only_moves = inl refl;
  }

  given_put : IsPutting k (now_in first (in_phase Collect given)) (found_in (in_phase Collect given)) (marks_in given) s → g.grant.op ≡ s.op → ShapeAfter first k (given ++ g ∷ []) requests
  given_put p same =
      let none : shape.configs ≡ [] = unless _ shape.written p.short in
      let of : phase_of g.grant.op ≡ Values = ap phase_of (same ∙ ap (λ (x : Stage). x.op) (sym p.is)) ∙ put_phase k _ in
      subst (λ cs. Shape first k cs (in_phase Values (given ++ g ∷ [])) requests) (sym (other_phase Collect Values given g of refl)) (put_more none (in_phase Values (given ++ g ∷ [])))

  given_move : IsMoving k (now_in first (in_phase Collect given)) (marks_in given) s → g.grant.op ≡ s.op → ShapeAfter first k (given ++ g ∷ []) requests
  given_move m same =
      let of : phase_of g.grant.op ≡ Configs = ap phase_of (same ∙ ap (λ (x : Stage). x.op) (sym m.is)) ∙ move_phase k (now_in first (in_phase Collect given)) in
      subst (λ cs. Shape first k cs (in_phase Values (given ++ g ∷ [])) requests) (sym (other_phase Collect Configs given g of refl))
      (subst (λ vs. Shape first k (in_phase Collect given) vs requests) (sym (other_phase Values Configs given g of refl)) shape)

  -- one more grant, of the stage
  pub shape_given : LeadsTo first k given s → g.grant.op ≡ s.op → ShapeAfter first k (given ++ g ∷ []) requests
  shape_given leads same = elim leads [
    | inl c ↦ given_get c
    | inr rest ↦ elim rest [ inl p ↦ given_put p same | inr m ↦ given_move m same ]
  ]
