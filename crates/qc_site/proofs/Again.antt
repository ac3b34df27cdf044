-- What an access was granted is what it asked its copy for, and is told at each repeat.
use Rattle.std.proofs.Common.{◌≡◌, ℕ, ◌<◌, Bool, true, false, [], ◌∷◌, length, refl, sym, ap, ◌∙◌, subst, arith, inl, inr}
use Rattle.std.specs.Prelude.{Option, None, Some, Result, Ok, Err, IfOk, OnErr, ◌==◌, if◌then◌else◌, option_and_then, slice_index_or}
use Rattle.std.specs.List.{All}
use Rattle.std.proofs.lemmas.Bool.{eq-eqb}
use Rattle.qc_config.specs.declared.tuple.Tuple.{Tuple}
use Rattle.qc_moss.specs.declared.consulting.Verdict.{Verdict}
use Rattle.qc_event.specs.Grants.{grant_with, MayGrant}
use Rattle.qc_event.proofs.Asked.{asked_fits}
use Rattle.qc_event.proofs.PutConfigs.{each_granted}
use Rattle.qc_event.specs.declared.event.Ask.{Ask}
use Rattle.qc_event.specs.declared.event.Event.{Event}
use Rattle.qc_event.specs.declared.event.Event.TheVariants as event
use Rattle.qc_event.specs.declared.event.Grant.{Grant}
use Rattle.qc_event.specs.Base.{Setting, IsProper}
use Rattle.qc_event.specs.History.{Past, Name, Asked, Given, same, asked, granted, grant_in, grants}
use Rattle.qc_event.specs.Legal.{Legal, MayHappen}
use Rattle.qc_event.proofs.Absent.{same_is}
use Rattle.qc_event.proofs.OneEntry.{if_is, first_is}
use Rattle.qc_event.proofs.Options.{some_there}
use Rattle.qc_event.proofs.StillTold.{is_stays}
use Rattle.qc_history.specs.Grants.{tuple_at}
use Rattle.qc_desk.specs.Consulting.{HasAsked, IsTold, granted_before}
use Rattle.qc_desk.specs.declared.consult.Consulted.{Consulted}
use Rattle.qc_desk.specs.declared.consult.Consulted.TheVariants.{Again, Fresh}
use Rattle.qc_event.specs.declared.short.Short.{Short}
use Rattle.qc_desk.specs.declared.view.View.{View}
use Rattle.qc_desk.specs.Entries.{IsOlder}
use Rattle.qc_desk.proofs.Consulting.{stands}
use Rattle.qc_desk.proofs.Granting.{asked_stays}
use Rattle.qc_desk.specs.Answers.{IsGranted}

-- WHAT THE TABLE TELLS

-- each grant of a copy is of a record that the copy has
pub grants_within : (setting : Setting) (past : Past) (copy : ℕ) → IsProper setting → Legal setting past → All (λ (g : Grant). g.rec < length (slice_index_or setting.base copy [])) (grants past copy)
grants_within setting past copy proper = each_granted (λ c g. g.rec < length (slice_index_or setting.base c [])) setting within past copy
  where
    within : (before : Past) (seat c : ℕ) (g : Grant) → Legal setting before → MayGrant setting before seat c g → g.rec < length (slice_index_or setting.base c [])
    within before seat c g legal may =
        let there = some_there (asked before g.access) _ may.request in
        let fits = asked_fits setting before g.access there.0 proper legal there.1 in
        let is_copy : c < length setting.base = subst (λ (x : Ask). x.copy < length setting.base) there.2 fits.is_copy in
        let is_record : g.rec < length setting.firsts = subst (λ (x : Ask). x.rec < length setting.firsts) there.2 fits.is_record in
        omega (arith, is_record, (proper.base.rows c [] is_copy).same_records)

-- A GRANT AND ITS REQUEST

-- An access that was granted had asked for that.
pub record WasAskedFor (past : Past) (n : Name) (x : Given) : Type 0 where
  pub of_name : x.grant.access ≡ n
  pub request : (a : Asked) × (asked past n ≡ Some a) × (a.ask ≡ record { access = x.grant.access; copy = x.copy; rec = x.grant.rec; op = x.grant.op })

pub granted_asked : (setting : Setting) (past : Past) (n : Name) (x : Given) → Legal setting past → granted past n ≡ Some x → WasAskedFor past n x
granted_asked setting [] n x legal is = absurd cc
granted_asked setting (e ∷ past) n x legal is = elim (first_is (granted past n) (grant_in n e.event) x is) [
  | inl old ↦
      let was = granted_asked setting past n x legal.0 old in
      record { of_name = was.of_name; request = (was.request.0, asked_stays (e ∷ []) past n was.request.0 was.request.1, was.request.2) }
  | inr new ↦ by_event e.event legal.1 new.1
]
  where
    by_event : (ev : Event) → MayHappen setting past e.seat ev → grant_in n ev ≡ Some x → WasAskedFor (e ∷ past) n x
    by_event (event.Granted c g) may h =
        let parts = if_is (same g.access n) (record { copy = c; grant = g }) x h in
        let name : g.access ≡ n = same_is g.access n parts.0 in
        let there = some_there (asked past g.access) _ may.request in
        subst (WasAskedFor (e ∷ past) n) parts.1
        record {
          of_name = name;
          request = (there.0, asked_stays (e ∷ []) past n there.0 (ap (asked past) (sym name) ∙ there.1), there.2);
        }
    by_event _ may h = absurd cc

-- A REQUEST OF THIS COPY

module _ (setting : Setting) (past : Past) (ask : Ask) (legal : Legal setting past) (has : HasAsked past ask) where
  -- what it was granted is what it asked for
  pub granted_is : (x : Given) → granted past ask.access ≡ Some x → x ≡ record { copy = ask.copy; grant = grant_with ask x.grant.tuple }
  granted_is x is =
      let was = granted_asked setting past ask.access x legal is in
      let request = stands (asked past ask.access) ask has in
      let one : Some was.request.0 ≡ Some (record { seat = request.0; ask = ask }) = sym was.request.1 ∙ request.1 in
      let same_ask : was.request.0 ≡ record { seat = request.0; ask = ask } = cc in
      let told : record { access = x.grant.access; copy = x.copy; rec = x.grant.rec; op = x.grant.op } ≡ ask = sym was.request.2 ∙ ap (λ (a : Asked). a.ask) same_ask in
      ap (λ (a : Ask). record { copy = a.copy; grant = grant_with a x.grant.tuple }) told

  -- what its copy granted it before is what it was granted
  pub again_granted : (tuple : Tuple) → granted_before past ask ≡ Some tuple → IsGranted ask.copy past (grant_with ask tuple)
  again_granted tuple is = by_grant (granted past ask.access) refl
    where
      taken : (b : Bool) (t : Tuple) → (if b then Some t else None) ≡ Some tuple → t ≡ tuple
      taken true t h = cc
      taken false t h = absurd cc

      by_grant : (o : Option Given) → granted past ask.access ≡ o → IsGranted ask.copy past (grant_with ask tuple)
      by_grant None none = let never : None ≡ Some tuple = ap (option_and_then (tuple_at ask.copy)) (sym none) ∙ is in absurd cc
      by_grant (Some x) there =
          let told : tuple_at ask.copy x ≡ Some tuple = ap (option_and_then (tuple_at ask.copy)) (sym there) ∙ is in
          let t : x.grant.tuple ≡ tuple = taken (x.copy == ask.copy) x.grant.tuple told in
          there ∙ ap Some (granted_is x there ∙ ap (λ z. record { copy = ask.copy; grant = grant_with ask z }) t)

  -- and where that is nothing, it was granted nothing
  pub none_granted : granted_before past ask ≡ None → granted past ask.access ≡ None
  none_granted none = by_grant (granted past ask.access) refl
    where
      by_grant : (o : Option Given) → granted past ask.access ≡ o → o ≡ None
      by_grant None is = refl
      by_grant (Some x) is =
          let here : x.copy ≡ ask.copy = ap (λ (y : Given). y.copy) (granted_is x is) in
          let told : tuple_at ask.copy x ≡ None = ap (option_and_then (tuple_at ask.copy)) (sym is) ∙ none in
          let there : tuple_at ask.copy x ≡ Some x.grant.tuple = ap (λ (b : Bool). if b then Some x.grant.tuple else None) (eq-eqb x.copy ask.copy here) in
          cc

-- AGAIN

-- what a request was granted in an earlier history its copy granted it before
pub granted_earlier : (copy : ℕ) (past now : Past) (ask : Ask) (tuple : Tuple) → ask.copy ≡ copy → IsOlder past now → IsGranted copy past (grant_with ask tuple) → granted_before now ask ≡ Some tuple
granted_earlier copy past now ask tuple is older told =
    let still : granted now ask.access ≡ Some (record { copy = copy; grant = grant_with ask tuple }) = ap (λ p. granted p ask.access) older.1 ∙ is_stays (λ e. grant_in ask.access e.event) older.0 past _ told in
    ap (option_and_then (tuple_at ask.copy)) still ∙ ap (λ (b : Bool). if b then Some tuple else None) (eq-eqb copy ask.copy (sym is))

-- so a consultation tells it
pub again_is_told : (setting : Setting) (ask : Ask) (v w : View) (r : Result Consulted Short) (tuple : Tuple) → IfOk r (IsTold setting ask v w) → OnErr r (granted_before w.seen ask ≡ None)
    → granted_before w.seen ask ≡ Some tuple → r ≡ Ok (Again tuple)
again_is_told setting ask v w (Ok (Again t)) tuple told fresh there = let same : Some t ≡ Some tuple = sym told.1 ∙ there in cc
again_is_told setting ask v w (Ok (Fresh said)) tuple told fresh there = let never : None ≡ Some tuple = sym told.0 ∙ there in absurd cc
again_is_told setting ask v w (Err why) tuple told fresh there = let never : None ≡ Some tuple = sym fresh ∙ there in absurd cc

-- and what it tells so stands
pub again_of : (setting : Setting) (ask : Ask) (v w : View) (r : Result Consulted Short) (tuple : Tuple) → IfOk r (IsTold setting ask v w) → r ≡ Ok (Again tuple) → IsTold setting ask v w (Again tuple)
again_of setting ask v w r tuple told is = subst (λ x. IfOk x (IsTold setting ask v w)) is told

-- A CONSULTATION HAS ONE RESULT

pub one_tuple : (r : Result Consulted Short) (t u : Tuple) → r ≡ Ok (Again t) → r ≡ Ok (Again u) → t ≡ u
one_tuple r t u one two = let both : Ok (Again t) ≡ Ok (Again u) = sym one ∙ two in cc

pub fresh_or_again : (r : Result Consulted Short) (said : Verdict) (tuple : Tuple) → r ≡ Ok (Fresh said) → r ≡ Ok (Again tuple) → ⊥
fresh_or_again r said tuple fresh again = let both : Ok (Fresh said) ≡ Ok (Again tuple) = sym fresh ∙ again in cc

pub err_or_again : (r : Result Consulted Short) (why : Short) (tuple : Tuple) → r ≡ Err why → r ≡ Ok (Again tuple) → ⊥
err_or_again r why tuple err again = let both : Err why ≡ Ok (Again tuple) = sym err ∙ again in cc

-- a request is for a record that its copy has
pub ask_within : (setting : Setting) (past : Past) (ask : Ask) → IsProper setting → Legal setting past → HasAsked past ask → ask.rec < length (slice_index_or setting.base ask.copy [])
ask_within setting past ask proper legal has =
    let there = stands (asked past ask.access) ask has in
    let fits = asked_fits setting past ask.access (record { seat = there.0; ask = ask }) proper legal there.1 in
    omega (arith, fits.is_record, (proper.base.rows ask.copy [] fits.is_copy).same_records)
