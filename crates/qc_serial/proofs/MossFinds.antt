-- A chain of grants, the last first, each of which finds what the earlier ones leave, read from its start.
use mathlib.Core.List.{reverse-cons}
use Rattle.std.proofs.Common.{ℕ, ◌≡◌, ◌&&◌, Bool, true, false, cond, List, [], ◌∷◌, ◌++◌, map, reverse, refl, sym, ap, ◌∙◌, subst, append_assoc}
use Rattle.std.specs.Prelude.{filter}
use Rattle.std.proofs.lemmas.List.{reverse-append, reverse-reverse, map-append}
use Rattle.std.proofs.lemmas.List.Elements.{filter-append}
use Rattle.std.proofs.lemmas.List.Sums.{fold-append}
use Rattle.std.proofs.Math.Bool.{and-true}
use Rattle.qc_config.specs.declared.tuple.Tuple.{Tuple}
use Rattle.qc_config.specs.Tuple.{after}
use Rattle.qc_event.specs.Base.{start_tuple}
use Rattle.qc_event.specs.declared.event.Grant.{Grant}
use Rattle.qc_event.specs.History.{Given}
use Rattle.qc_event.specs.Seen.{changed_by}
use Rattle.qc_serial.specs.Visible.{is_at, left_at, Finds}
use Rattle.qc_serial.proofs.MossMoves.{Place, same_place, place_of}
use Rattle.qc_serial.proofs.MossSerial.{state, Chain}
use Rattle.qc_serial.proofs.MossPast.{start_at}

abbrev grant_of : Given → Grant
grant_of g = g.grant

-- what one grant more leaves
pub left_last : (base : List (List Tuple)) (given : List Given) (g : Given) (copy rec : ℕ)
    → left_at base (given ++ g ∷ []) copy rec ≡ cond (is_at copy rec g) (after (left_at base given copy rec) g.grant.op) (left_at base given copy rec)
left_last base given g copy rec =
    ap (λ gs. changed_by (start_tuple base copy rec) (map grant_of gs)) (filter-append (is_at copy rec) given (g ∷ []))
    ∙ ap (changed_by (start_tuple base copy rec)) (map-append grant_of (filter (is_at copy rec) given) (filter (is_at copy rec) (g ∷ [])))
    ∙ fold-append (λ t (x : Grant). after t x.op) (start_tuple base copy rec) (map grant_of (filter (is_at copy rec) given)) (map grant_of (filter (is_at copy rec) (g ∷ [])))
    ∙ by_test (is_at copy rec g) (left_at base given copy rec)
  where
    by_test : (b : Bool) (t : Tuple) → changed_by t (map grant_of (cond b (g ∷ []) [])) ≡ cond b (after t g.grant.op) t
    by_test true t = refl
    by_test false t = refl

pub state_left : (base : List (List Tuple)) (gs : List Given) (place : Place) → state (start_at base) gs place ≡ left_at base (reverse gs) place.copy place.rec
state_left base [] place = refl
state_left base (g ∷ gs) place =
    ap (λ (t : Tuple). cond (same_place (place_of g) place && true) (after t g.grant.op) t) (state_left base gs place)
    ∙ ap (λ b. cond b (after (left_at base (reverse gs) place.copy place.rec) g.grant.op) (left_at base (reverse gs) place.copy place.rec)) (and-true (same_place (place_of g) place))
    ∙ sym (left_last base (reverse gs) g place.copy place.rec)
    ∙ ap (λ given. left_at base given place.copy place.rec) (sym (reverse-cons g gs))

-- each grant in the chain
chain_at : (base : Place → Tuple) (later earlier : List Given) (g : Given) → Chain base (later ++ g ∷ earlier) → g.grant.tuple ≡ after (state base earlier (place_of g)) g.grant.op
chain_at base [] earlier g chain = chain.0
chain_at base (x ∷ later) earlier g chain = chain_at base later earlier g chain.1

pub finds_chain : (base : List (List Tuple)) (gs : List Given) → Chain (start_at base) gs → Finds base (reverse gs)
finds_chain base gs chain earlier later g is =
    chain_at (start_at base) (reverse later) (reverse earlier) g (subst (Chain (start_at base)) turned chain)
    ∙ ap (λ (t : Tuple). after t g.grant.op) (state_left base (reverse earlier) (place_of g) ∙ ap (λ given. left_at base given g.copy g.grant.rec) (reverse-reverse earlier))
  where
    turned : gs ≡ reverse later ++ g ∷ reverse earlier
    turned =
        sym (reverse-reverse gs) ∙ ap reverse is ∙ reverse-append earlier (g ∷ later)
        ∙ ap (λ xs. xs ++ reverse earlier) (reverse-cons g later) ∙ append_assoc (reverse later) (g ∷ []) (reverse earlier)
