-- What a manager that writes asks: first the tuple, and once the copy has told it, that the value is put.
use Rattle.std.proofs.Common.{◌≡◌, ℕ, ◌+◌, ◌-◌, ◌^◌, ◌<◌, Bool, true, false, List, [], ◌∷◌, sym, ap, ap₂, ◌∙◌, subst, eqb-true, arith}
use Rattle.std.specs.Prelude.{Option, None, Some, IsTrue, MatchOption, not, ◌==◌, ◌&&◌, nat_lt, cond, find, filter, is_none, is_some, if◌then◌else◌}
use Rattle.std.specs.List.{cons_option, list_all, list_any}
use Rattle.std.proofs.lemmas.Bool.{false_from_ne_true}
use Rattle.qc_config.specs.Config.{votes_of}
use Rattle.qc_config.specs.Val.{Datum}
use Rattle.qc_config.specs.declared.tuple.Tuple.{Tuple}
use Rattle.qc_config.specs.declared.tuple.Op.TheVariants.{Get, PutData}
use Rattle.qc_event.specs.declared.event.Answer.TheVariants.{Reply}
use Rattle.qc_event.specs.declared.event.Ask.{Ask}
use Rattle.qc_event.specs.declared.event.How.TheVariants.{Commit}
use Rattle.qc_event.specs.declared.event.Kind.TheVariants as kind
use Rattle.qc_event.specs.declared.event.Phase.{Phase}
use Rattle.qc_event.specs.declared.event.Phase.TheVariants.{Collect, Values, Configs}
use Rattle.qc_event.specs.declared.table.Table.{Table}
use Rattle.qc_event.specs.History.{Past, Name, end, asks, gone, refused}
use Rattle.qc_event.specs.Manager.{Result, Replied, result, result_by, reply_of, Stage, stage, stages_by, collecting, greatest_among, is_complete, is_last, is_phase, phase_of, first_for, all_copies, AtStage, waiting}
use Rattle.qc_event.specs.Requests.{IsNextAsk}
use Rattle.qc_event.specs.Tables.{setting_of}
use Rattle.qc_desk.proofs.OwnSince.{enough_of, newest_of, stage_of, replies_by, has_by}
use Rattle.rows_serve.specs.TwoRecords.{config, IsOver}
use Rattle.rows_serve.proofs.TwoRecords.{first_is}

abbrev pub next_by : Phase → List Ask → Option ℕ
next_by phase requests = find (λ copy. nat_lt 0 (votes_of config copy) && is_none (find (λ (ask : Ask). ask.copy == copy) (filter (λ (ask : Ask). is_phase phase (phase_of ask.op)) requests))) all_copies

-- the stage at which the value is put
abbrev pub putting : ℕ → Datum → Stage
putting version value = record { phase = Values; config = config; op = PutData (version + 1) value; writes = true }

-- the request for a tuple
abbrev pub getting : Name → ℕ → Ask
getting access rec = record { access = access; copy = 0; rec = rec; op = Get }

module _ (over : Table) (base : List (List Tuple)) (rec : ℕ) (value : Datum) (o : IsOver over base) (less : rec < 2) (past : Past) (m : Name) (ask : Ask) (to_copy : ask.copy ≡ 0) (of_record : ask.rec ≡ rec) where
  at : (s : Stage) → stage past config m (kind.Write rec value) ≡ Some s → IsNextAsk past m (kind.Write rec value) ask s → AtStage (setting_of over base) past m (kind.Write rec value) (IsNextAsk past m (kind.Write rec value) ask)
  at s is next = subst (λ t. MatchOption t ⊥ (IsNextAsk past m (kind.Write rec value) ask)) (sym (ap (λ f. stage past f m (kind.Write rec value)) (first_is over base rec o less) ∙ is)) next

  pub at_first : ask.op ≡ Get → asks past m ≡ [] → AtStage (setting_of over base) past m (kind.Write rec value) (IsNextAsk past m (kind.Write rec value) ask)
  at_first gets none = at (collecting (record { generation = 0; config = config }))
      (ap (λ requests. stage_of (replies_by requests (result past)) (has_by requests (result past)) config (kind.Write rec value)) none)
      (record { next = ap (next_by Collect) none ∙ ap Some (sym to_copy); same_record = of_record; same_op = gets })

  -- by what its one request replied
  abbrev by_reply : Name → ℕ → Option Result → Option Stage
  by_reply access r told = stage_of (replies_by (getting access r ∷ []) (λ _. told)) (has_by (getting access r ∷ []) (λ _. told)) config (kind.Write rec value)

  after_reply : (access : Name) (r : ℕ) (t : Tuple) → t.generation ≡ 0 → t.version + 1 < 2 ^ 64 → by_reply access r (Some (Replied t)) ≡ Some (putting t.version value)
  after_reply access r t first small =
      ap (λ g. by_reply access r (Some (Replied (record { version = t.version; value = t.value; generation = g; config = t.config })))) first
      ∙ ap (λ (b : Bool). if b then None else Some (putting t.version value)) not_last
    where
      not_last : (t.version == 2 ^ 64 - 1) ≡ false
      not_last = false_from_ne_true (t.version == 2 ^ 64 - 1) (λ is. absurd (omega (arith, small, eqb-true t.version (2 ^ 64 - 1) is)))

  pub at_put : (access : Name) (r : ℕ) (t : Tuple) → t.generation ≡ 0 → t.version + 1 < 2 ^ 64 → ask.op ≡ PutData (t.version + 1) value → asks past m ≡ getting access r ∷ [] → end past access ≡ Some (Commit (Reply t))
      → AtStage (setting_of over base) past m (kind.Write rec value) (IsNextAsk past m (kind.Write rec value) ask)
  at_put access r t first small puts one ended = at (putting t.version value)
      (ap (λ requests. stage_of (replies_by requests (result past)) (has_by requests (result past)) config (kind.Write rec value)) one
      ∙ ap (by_reply access r) (ap (λ how. result_by how (gone past access) (refused past access)) ended)
      ∙ after_reply access r t first small)
      (record { next = ap (next_by Values) one ∙ ap Some (sym to_copy); same_record = of_record; same_op = puts })

-- THE COMMIT

-- the request that the value is put
abbrev pub putting_ask : Name → ℕ → ℕ → Datum → Ask
putting_ask access rec version value = record { access = access; copy = 0; rec = rec; op = PutData (version + 1) value }

-- whether a manager that writes is complete, by the replies to its reads and by who replied in each phase
abbrev complete_of : ℕ → Datum → List Tuple → (Phase → ℕ → Bool) → Bool
complete_of rec value tuples has =
    not (enough_of has (collecting (newest_of tuples config)) && is_last (kind.Write rec value) (newest_of tuples config) (greatest_among tuples))
    && list_all (enough_of has) (stages_by (kind.Write rec value) (newest_of tuples config) (greatest_among tuples))

-- who replied, by what came of its two requests
abbrev has_two : Option Result → Option Result → Phase → ℕ → Bool
has_two x y Collect copy = list_any (λ (r : Option Result). (0 == copy) && is_some (reply_of r)) (x ∷ [])
has_two x y Values copy = list_any (λ (r : Option Result). (0 == copy) && is_some (reply_of r)) (y ∷ [])
has_two x y Configs copy = false

abbrev complete_by : ℕ → Datum → Option Result → Option Result → Bool
complete_by rec value x y = complete_of rec value (cons_option (reply_of x) []) (has_two x y)

both_replied : (rec : ℕ) (value : Datum) (t t' : Tuple) → t.generation ≡ 0 → t.version + 1 < 2 ^ 64 → complete_by rec value (Some (Replied t)) (Some (Replied t')) ≡ true
both_replied rec value t t' first small =
    ap (λ g. complete_by rec value (Some (Replied (record { version = t.version; value = t.value; generation = g; config = t.config }))) (Some (Replied t'))) first
    ∙ ap (λ (b : Bool). not b && true) not_last
  where
    not_last : (t.version == 2 ^ 64 - 1) ≡ false
    not_last = false_from_ne_true (t.version == 2 ^ 64 - 1) (λ is. absurd (omega (arith, small, eqb-true t.version (2 ^ 64 - 1) is)))

-- its two requests were replied to
pub is_done : (over : Table) (base : List (List Tuple)) (rec : ℕ) (value : Datum) → IsOver over base → rec < 2 → (past : Past) (m a b : Name) (r r' : ℕ) (t t' : Tuple) → asks past m ≡ getting a r ∷ putting_ask b r' t.version value ∷ []
    → end past a ≡ Some (Commit (Reply t)) → end past b ≡ Some (Commit (Reply t')) → t.generation ≡ 0 → t.version + 1 < 2 ^ 64 → IsTrue (is_complete past (first_for (setting_of over base) (kind.Write rec value)) m (kind.Write rec value))
is_done over base rec value o less past m a b r r' t t' two ended_a ended_b first small =
    ap (λ f. is_complete past f m (kind.Write rec value)) (first_is over base rec o less)
    ∙ ap (λ (requests : List Ask). complete_of rec value (replies_by requests (result past)) (has_by requests (result past))) two
    ∙ ap₂ (λ x y. complete_by rec value (result_by x (gone past a) (refused past a)) (result_by y (gone past b) (refused past b))) ended_a ended_b
    ∙ both_replied rec value t t' first small

-- it waits for nothing
pub waits_for_none : (past : Past) (m : Name) → asks past m ≡ [] → waiting past m ≡ None
waits_for_none past m none = ap (find (λ (a : Ask). is_none (end past a.access))) none

pub waits_no_more : (past : Past) (m : Name) (ask : Ask) (t : Tuple) → asks past m ≡ ask ∷ [] → end past ask.access ≡ Some (Commit (Reply t)) → waiting past m ≡ None
waits_no_more past m ask t one ended =
    ap (find (λ (a : Ask). is_none (end past a.access))) one ∙ ap (λ how. cond (is_none how) (Some ask) None) ended
