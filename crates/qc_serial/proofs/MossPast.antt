-- The moves of a history, what its grants leave, and what they gave, in terms of the moves.
use mathlib.Core.List.{reverse-cons}
use Rattle.std.proofs.Common.{ℕ, ◌≡◌, ◌==◌, ◌&&◌, Bool, true, false, cond, List, [], ◌∷◌, ◌++◌, reverse, refl, sym, ap, ap₂, ◌∙◌, subst, inl, inr, append-nil, length, arith}
use Rattle.std.specs.Prelude.{None, Some, filter, find, option_to_list, if◌then◌else◌}
use Rattle.std.proofs.lemmas.List.{reverse-append}
use Rattle.std.proofs.lemmas.List.Elements.{filter-append}
use Rattle.std.proofs.lemmas.List.Sums.{fold-append}
use Rattle.std.proofs.lemmas.List.Folds.{find-append}
use Rattle.std.proofs.lemmas.Bool.{eq-eqb}
use Rattle.qc_config.specs.declared.tuple.Tuple.{Tuple}
use Rattle.qc_config.specs.Tuple.{after}
use Rattle.qc_event.specs.Base.{start_tuple}
use Rattle.qc_event.specs.declared.event.Event.{Event}
use Rattle.qc_event.specs.declared.event.Event.TheVariants as event
use Rattle.qc_event.specs.declared.event.Grant.{Grant}
use Rattle.qc_event.specs.declared.event.How.{How}
use Rattle.qc_event.specs.declared.event.How.TheVariants as how
use Rattle.qc_event.specs.History.{Past, Name, Given, same, is_child, grants, grant_at}
use Rattle.qc_event.specs.Seen.{changed_by}
use Rattle.qc_event.proofs.LastNumber.{no_child_length}
use Rattle.qc_event.proofs.OneEntry.{none_before}
use Rattle.qc_serial.specs.Visible.{given_in, served}
use Rattle.qc_serial.proofs.MossNames.{Line}
use Rattle.qc_serial.proofs.MossMoves as moss
use Rattle.qc_serial.proofs.MossMoves.{Move, Granted, Commit, Abort, Place, left_by}
use Rattle.qc_serial.proofs.MossLocks.{In}
use Rattle.qc_serial.proofs.MossSerial.{walk}
use Rattle.qc_serial.proofs.MossTurned.{turn_back, same_turned, child_turned}

abbrev pub end_move : Line → How → List Move
end_move [] h = []
end_move (k ∷ p) (how.Commit answer) = Commit k p ∷ []
end_move (k ∷ p) (how.Abort cause) = Abort k p ∷ []

abbrev pub move_in : Event → List Move
move_in (event.Granted copy grant) = Granted (record { copy = copy; grant = grant }) ∷ []
move_in (event.End n h) = end_move (reverse n) h
move_in _ = []

abbrev pub moves : Past → List Move
moves [] = []
moves (e ∷ past) = move_in e.event ++ moves past

-- an end grants nothing
pub end_grants : (m : Line) (h : How) (ms : List Move) → moss.grants (end_move m h ++ ms) ≡ moss.grants ms
end_grants [] h ms = refl
end_grants (k ∷ p) (how.Commit answer) ms = refl
end_grants (k ∷ p) (how.Abort cause) ms = refl

-- WHAT GRANTS LEAVE

-- a copy's start tuple of a record, by place
abbrev pub start_at : List (List Tuple) → Place → Tuple
start_at base place = start_tuple base place.copy place.rec

module _ (base : List (List Tuple)) (passes : Line → Bool) (passed : Name → Bool) (agree : (n : Name) → passes (reverse n) ≡ passed n) (copy rec : ℕ) where
  abbrev place : Place
  place = record { copy = copy; rec = rec }

  abbrev counts : Grant → Bool
  counts g = (g.rec == rec) && passed g.access

  abbrev left : List Grant → Tuple
  left given = changed_by (start_tuple base copy rec) (filter counts given)

  left_more : (given more : List Grant) → left (given ++ more) ≡ changed_by (left given) (filter counts more)
  left_more given more =
      ap (changed_by (start_tuple base copy rec)) (filter-append counts given more)
      ∙ fold-append (λ t (g : Grant). after t g.op) (start_tuple base copy rec) (filter counts given) (filter counts more)

  -- one more grant, by whether it is of the copy and counts
  one_more : (g : Grant) (here there pass : Bool) (rest : Tuple) → counts g ≡ (there && pass)
      → cond ((here && there) && pass) (after rest g.op) rest ≡ changed_by rest (filter counts (option_to_list (if here then Some g else None)))
  one_more g false there pass rest is = refl
  one_more g true there pass rest is = by_test (there && pass) ∙ ap (λ b. changed_by rest (cond b (g ∷ []) [])) (sym is)
    where
      by_test : (b : Bool) → cond b (after rest g.op) rest ≡ changed_by rest (cond b (g ∷ []) [])
      by_test true = refl
      by_test false = refl

  left_entry : (past : Past) (ev : Event) → left_by (start_at base) passes (moss.grants (moves past)) place ≡ left (grants past copy)
      → left_by (start_at base) passes (moss.grants (move_in ev ++ moves past)) place ≡ left (grants past copy ++ option_to_list (grant_at copy ev))
  left_entry past (event.Granted c g) before =
      ap (λ (t : Tuple). cond (((c == copy) && (g.rec == rec)) && passes (reverse g.access)) (after t g.op) t) before
      ∙ one_more g (c == copy) (g.rec == rec) (passes (reverse g.access)) (left (grants past copy)) (ap (λ b. (g.rec == rec) && b) (sym (agree g.access)))
      ∙ sym (left_more (grants past copy) (option_to_list (if c == copy then Some g else None)))
  left_entry past (event.End n h) before = ap (λ gs. left_by (start_at base) passes gs place) (end_grants (reverse n) h (moves past)) ∙ before ∙ ap left (sym (append-nil (grants past copy)))
  left_entry past _ before = before ∙ ap left (sym (append-nil (grants past copy)))

  -- what the grants that pass a test leave
  pub left_moves : (past : Past) → left_by (start_at base) passes (moss.grants (moves past)) place ≡ left (grants past copy)
  left_moves [] = refl
  left_moves (e ∷ past) = left_entry past e.event (left_moves past)

-- WHO IS IN THE WAY

-- where none of a copy's grants passes a test, each of the moves' grants there fails it
module _ (test : Grant → Bool) (copy : ℕ) where
  fails : (b : Given) (c : ℕ) (g : Grant) → b ≡ record { copy = c; grant = g } → b.copy ≡ copy → find test (option_to_list (if c == copy then Some g else None)) ≡ None → test b.grant ≡ false
  fails b c g is here none =
      ap (λ (x : Given). test x.grant) is
      ∙ by_test (test g) (sym (ap (λ t. find test (option_to_list (if t then Some g else None))) (eq-eqb c copy (sym (ap (λ (x : Given). x.copy) is) ∙ here))) ∙ none)
    where
      by_test : (t : Bool) → cond t (Some g) None ≡ None → t ≡ false
      by_test true h = absurd cc
      by_test false h = refl

  none_entry : (past : Past) (ev : Event) (b : Given) → find test (grants past copy) ≡ None → find test (option_to_list (grant_at copy ev)) ≡ None → b.copy ≡ copy
      → (In b (moss.grants (moves past)) → test b.grant ≡ false) → In b (moss.grants (move_in ev ++ moves past)) → test b.grant ≡ false
  none_entry past (event.Granted c g) b before now here earlier (inl is) = fails b c g is here now
  none_entry past (event.Granted c g) b before now here earlier (inr i) = earlier i
  none_entry past (event.End n h) b before now here earlier i = earlier (subst (In b) (end_grants (reverse n) h (moves past)) i)
  none_entry past _ b before now here earlier i = earlier i

  pub none_found : (past : Past) (b : Given) → find test (grants past copy) ≡ None → b.copy ≡ copy → In b (moss.grants (moves past)) → test b.grant ≡ false
  none_found [] b none here i = absurd i
  none_found (e ∷ past) b none here i =
      let parts = none_before (find test (grants past copy)) _ (sym (find-append test (grants past copy) (option_to_list (grant_at copy e.event))) ∙ none) in
      none_entry past e.event b parts.0 parts.1 here (none_found past b parts.0 here) i

-- WHAT A NAME WAS GIVEN

serves_grant : (b : Bool) (g : Given) (given : List Given) → reverse given ++ (if b then g ∷ [] else []) ≡ reverse (cond b (g ∷ given) given)
serves_grant true g given = sym (reverse-cons g given)
serves_grant false g given = append-nil (reverse given)

serves_child : (b : Bool) (child given : List Given) → reverse given ++ (if b then reverse child else []) ≡ reverse (cond b (child ++ given) given)
serves_child true child given = sym (reverse-append child given)
serves_child false child given = append-nil (reverse given)

serves_end : (past : Past) (d : Line) (n : Name) (h : How) (m : Line) → reverse n ≡ m → ((d : Line) → served past (reverse d) ≡ reverse (walk (moves past) d))
    → reverse (walk (moves past) d) ++ given_in (served past) (reverse d) (event.End n h) ≡ reverse (walk (end_move m h ++ moves past) d)
serves_end past d n (how.Commit answer) [] is before =
    ap (λ b. reverse (walk (moves past) d) ++ (if b then served past n else [])) (no_child_length (reverse d) n (λ e. let root : length n ≡ 0 = ap length (turn_back n [] is) in omega arith))
    ∙ append-nil (reverse (walk (moves past) d))
serves_end past d n (how.Commit answer) (k ∷ p) is before =
    let child : is_child (reverse d) n ≡ same p d = ap (is_child (reverse d)) (turn_back n (k ∷ p) is) ∙ child_turned k p d in
    ap₂ (λ b gs. reverse (walk (moves past) d) ++ (if b then gs else [])) child (ap (served past) (turn_back n (k ∷ p) is) ∙ before (k ∷ p))
    ∙ serves_child (same p d) (walk (moves past) (k ∷ p)) (walk (moves past) d)
serves_end past d n (how.Abort cause) [] is before = append-nil (reverse (walk (moves past) d))
serves_end past d n (how.Abort cause) (k ∷ p) is before = append-nil (reverse (walk (moves past) d))

serves_entry : (past : Past) (d : Line) (ev : Event) → ((d : Line) → served past (reverse d) ≡ reverse (walk (moves past) d))
    → reverse (walk (moves past) d) ++ given_in (served past) (reverse d) ev ≡ reverse (walk (move_in ev ++ moves past) d)
serves_entry past d (event.Granted copy grant) before =
    ap (λ b. reverse (walk (moves past) d) ++ (if b then record { copy = copy; grant = grant } ∷ [] else [])) (same_turned grant.access d)
    ∙ serves_grant (same (reverse grant.access) d) (record { copy = copy; grant = grant }) (walk (moves past) d)
serves_entry past d (event.End n h) before = serves_end past d n h (reverse n) refl before
serves_entry past d _ before = append-nil (reverse (walk (moves past) d))

-- a name was given what stands in the walk of the moves, the last first
pub served_moves : (past : Past) (d : Line) → served past (reverse d) ≡ reverse (walk (moves past) d)
served_moves [] d = refl
served_moves (e ∷ past) d = ap (λ gs. gs ++ given_in (served past) (reverse d) e.event) (served_moves past d) ∙ serves_entry past d e.event (served_moves past)
