-- What a client has made, by how its pass goes on.
use Rattle.std.proofs.Common.{◌≡◌, ℕ, Bool, true, false, [], ◌∷◌, refl, sym, ap, ◌∙◌, subst}
use mathlib.Core.Bool.{true≢false}
use Rattle.std.specs.Prelude.{◌==◌, ◌||◌, cond, ◌++◌, Option}
use Rattle.std.specs.List.{list_any}
use Rattle.std.proofs.lemmas.Bool.{eq-eqb, eqb-true, false_from_ne_true}
use Rattle.qc_event.specs.declared.event.Entry.{Entry}
use Rattle.qc_event.specs.declared.event.Event.{Event}
use Rattle.qc_event.specs.Base.{Setting}
use Rattle.qc_event.specs.History.{Past, Name}
use Rattle.qc_event.specs.Legal.{Legal}
use Rattle.qc_managers.specs.Carrying.{entry, made_by}
use Rattle.qc_desk.specs.declared.view.View.{View}
use Rattle.qc_desk.specs.Entries.{AreOthers, entries_of}
use Rattle.qc_desk.specs.Rules.{AreKin, Has}
use Rattle.qc_desk.proofs.Apart.{kin_of_number, none_is}
use Rattle.qc_desk.proofs.Lists.{entries_append}
use Rattle.qc_desk.proofs.Since.{nothing_more, others_where_none}
use Rattle.qc_net.specs.Messages.{Net}
use Rattle.qc_carry.specs.Walk.{Walk}
use Rattle.qc_script.specs.Calls.{by_client}
use Rattle.qc_script.specs.Client.{Client, Made, mine, is_own}
use Rattle.qc_session.specs.Clients.{IsFor, client_of}

-- a client owns its own seat alone, but for its kin's
pub own_alone : (c : Client) (seat s : ℕ) → c.number ≡ seat → list_any (λ k. k == s) c.kin ≡ false → is_own c s ≡ (s == seat)
own_alone c seat s number other = ap (λ b. (c.number == s) || b) other ∙ ap (λ n. (n == s) || false) number ∙ by_test (s == seat) refl
  where
    by_test : (b : Bool) → (s == seat) ≡ b → ((seat == s) || false) ≡ b
    by_test true is = ap (λ b. b || false) (eq-eqb seat s (sym (eqb-true s seat is)))
    by_test false is = ap (λ b. b || false) (false_from_ne_true (seat == s) (λ t. true≢false (sym (eq-eqb s seat (sym (eqb-true seat s t))) ∙ is)))

-- each of the client's kin made none of these entries
abbrev pub KinMadeNone : Client → Past → Type 0
KinMadeNone c past = (k : ℕ) → Has c.kin k → AreOthers k past

pub not_kin : (c : Client) (e : Entry) (past : Past) → KinMadeNone c (e ∷ past) → list_any (λ k. k == e.seat) c.kin ≡ false
not_kin c e past none = none_is e.seat c.kin (λ k h same. (none k h).0 (sym same))

pub mine_is : (c : Client) (seat : ℕ) (past : Past) → c.number ≡ seat → KinMadeNone c past → mine c past ≡ made_by seat past
mine_is c seat [] number none = refl
mine_is c seat (e ∷ past) number none =
    ap (λ b. cond b (e ∷ mine c past) (mine c past)) (own_alone c seat e.seat number (not_kin c e past none))
    ∙ ap (λ p. cond (e.seat == seat) (e ∷ p) p) (mine_is c seat past number (λ k h. (none k h).1))

-- where no more stands under a number, all that is newer is others'
pub others_newer : (k : ℕ) (newer before now : Past) → now ≡ newer ++ before → entries_of k now ≡ entries_of k before → AreOthers k newer
others_newer k newer before now grown same =
    others_where_none k newer (nothing_more (entries_of k newer) (entries_of k before) (sym (entries_append k newer before) ∙ sym (ap (entries_of k) grown) ∙ same))

-- nor did they make any of what is newer
pub kin_made_none : (setting : Setting) (v w : View) (c : Client) → IsFor setting v w c → (newer : Past) → w.seen ≡ newer ++ v.seen → KinMadeNone c newer
kin_made_none setting v w c for newer grown k h = others_newer k newer v.seen w.seen grown (for.kin_still k h)

module _ (setting : Setting) (v w : View) (c : Client) (for : IsFor setting v w c) (legal : Legal setting w.seen) where
  legal_for : Legal c.setting w.seen
  legal_for = subst (λ s. Legal s w.seen) (sym for.setting_is) legal

  pub made_so : (made : Past) → Walk v w made → Made c made v.seen w.seen
  made_so made walk = record { newer = walk.newer; grown = walk.grown; made = mine_is c v.number walk.newer for.number (kin_made_none setting v w c for walk.newer walk.grown) ∙ walk.own; legal = legal_for }

  pub made_one : (ev : Event) → Walk v w (entry v.number ev ∷ []) → Made c (by_client c ev ∷ []) v.seen w.seen
  made_one ev walk = subst (λ n. Made c (entry n ev ∷ []) v.seen w.seen) (sym for.number) (made_so (entry v.number ev ∷ []) walk)

-- a pass is of its client, by what is known of it before and after
pub is_for : (setting : Setting) (root : Name) (session epoch : ℕ) (net : Option Net) (v w : View) → w.kin ≡ v.kin → AreKin v.kin v.seen → AreKin w.kin w.seen → IsFor setting v w (client_of setting root session epoch net v)
is_for setting root session epoch net v w same was now = record {
  number = refl;
  kin_still = λ k h. let m = kin_of_number v.kin k h.0 h.1 in now k m.0 (subst (λ ks. Has ks (k, m.0)) (sym same) m.1) ∙ sym (was k m.0 m.1);
  setting_is = refl;
}
