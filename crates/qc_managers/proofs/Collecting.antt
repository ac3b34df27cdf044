-- A manager that collects: what it asks next, when it has enough, and why it is short.
use Rattle.std.proofs.Common.{◌≡◌, ℕ, ◌<◌, false, List, [], ◌∷◌, ◌++◌, refl, sym, ap, ◌∙◌, subst}
use Rattle.std.specs.Prelude.{◌≤◌, length, All, Option, None, Some}
use Rattle.qc_config.specs.Config.{Voting, holds_read}
use Rattle.qc_config.specs.declared.tuple.Op.TheVariants.{Get}
use Rattle.qc_event.specs.declared.event.Kind.{Kind}
use Rattle.qc_event.specs.declared.event.Phase.TheVariants.{Collect}
use Rattle.qc_event.specs.Counts.{Rose}
use Rattle.qc_event.specs.History.{Past, Name}
use Rattle.qc_event.specs.Manager.{Stage, Newest, collecting, newest, is_enough, stage, record_of, first_for}
use Rattle.qc_managers.specs.Carrying.{CarrierView, MayCarry}
use Rattle.qc_managers.specs.declared.next.Next.{Next}
use Rattle.qc_managers.specs.declared.next.Next.TheVariants.{Enough, Copy, Short}
use Rattle.qc_managers.specs.declared.shortage.Shortage.{Shortage}
use Rattle.qc_managers.specs.Gathered.{Gathered, gathered}
use Rattle.qc_managers.specs.Heard.{next_of, shortage_in}
use Rattle.qc_managers.specs.Told.{Told, newest_in, replied_in, next_in}
use Rattle.qc_managers.specs.Answered.{told_in}
use Rattle.qc_managers.specs.Going.{MayGoOn, SameElsewhere, HasHeard, HasServed, MayCollect, HasCollected}
use Rattle.qc_managers.specs.declared.no.MgrNo.{MgrNo}
use Rattle.qc_managers.specs.Managed.{ManagerIsRefused, no_of}
use Rattle.qc_managers.specs.Undisturbed.{TellHasCause, IsUndisturbed}
use Rattle.qc_managers.proofs.Causes.{causes_none, causes_further}
use Rattle.qc_managers.proofs.Known.{newest-told, replied-told}
use Rattle.qc_managers.proofs.Nexts.{next_enough, next_short, next_copy_of}
use Rattle.qc_managers.proofs.Served.{served_none, served_further}
use Rattle.qc_managers.proofs.Short.{refused_short}
use Rattle.qc_managers.proofs.Stages.{collects, may_carry}
use Rattle.qc_managers.proofs.Undisturbed.{never_short}
use Rattle.qc_managers.proofs.Unasked.{unasked, unasked_fewer, next_within}

-- a manager that collects, between the carrier where it began and the carrier now
pub record IsCollecting (a now : CarrierView) (m : Name) (k : Kind) (first : Voting) (kept : Gathered) : Type 0 where
  pub served : HasServed m a now
  pub goes_on : MayGoOn a.seat now.seen m k
  pub elsewhere : SameElsewhere a.seen now.seen m Collect
  pub kept_is : kept ≡ gathered first (told_in now.seen m Collect)
  pub causes : All (TellHasCause now.seen m (Rose a.troubles now.troubles)) (told_in now.seen m Collect)

pub collecting_begins : (a : CarrierView) (m : Name) (k : Kind) (rec : ℕ) (first : Voting) (kept : Gathered) → MayCollect a.setting a.seat a.seen m k rec first → kept ≡ gathered first [] → IsCollecting a a m k first kept
collecting_begins a m k rec first kept may is =
    record { served = served_none m a; goes_on = may.goes_on; elsewhere = λ p other. refl; kept_is = is ∙ ap (gathered first) (sym may.nothing_told); causes = causes_none a m Collect may.nothing_told }

-- whether enough was collected, by what was told
got-told : (past : Past) (first : Voting) (m : Name) → is_enough past m (collecting (newest past first m)) ≡ holds_read (newest_in first (told_in past m Collect)).config (replied_in (told_in past m Collect))
got-told past first m =
    ap (λ (n : Newest). is_enough past m (collecting n)) (newest-told past first m)
    ∙ ap (holds_read (newest_in first (told_in past m Collect)).config) (replied-told past m Collect)

module _ (a now : CarrierView) (m : Name) (k : Kind) (first : Voting) (kept : Gathered) (h : IsCollecting a now m k first kept) where
  abbrev told : List Told
  told = told_in now.seen m Collect

  -- what the gathered says is next
  abbrev pub Does : Next → Type 0
  Does next = next ≡ next_of (holds_read (newest_in first told).config (replied_in told)) (newest_in first told).config told

  pub collected : Does Enough → HasCollected a.seat a.seen now.seen m k first kept
  collected does =
      record { goes_on = h.goes_on; elsewhere = h.elsewhere; kept = h.kept_is; enough = got-told now.seen first m ∙ next_enough _ (newest_in first told).config told does }

  module _ (rec : ℕ) (may : MayCollect a.setting a.seat a.seen m k rec first) where
    abbrev here : Stage
    here = collecting (newest now.seen first m)

    at_here : holds_read (newest_in first told).config (replied_in told) ≡ false → stage now.seen (first_for a.setting k) m k ≡ Some here
    at_here out = subst (λ f. stage now.seen f m k ≡ Some here) may.same_first (collects now.seen first m k may.manages (got-told now.seen first m ∙ out))

    next_here : (o : Option ℕ) → next_in (newest_in first told).config told ≡ o → next_in here.config told ≡ o
    next_here o is = ap (λ (n : Newest). next_in n.config told) (newest-told now.seen first m) ∙ is

    pub asks_next : (copy : ℕ) → Does (Copy copy) → MayCarry now.setting now.seat now.seen m copy rec Get
    asks_next copy does =
        let next = next_copy_of _ (newest_in first told).config told copy does in
        subst (λ r. MayCarry now.setting now.seat now.seen m copy r Get) (sym may.same_record)
        (subst (λ setting. MayCarry setting now.seat now.seen m copy (record_of k) Get) (sym h.served.setting)
        (subst (λ seat. MayCarry a.setting seat now.seen m copy (record_of k) Get) (sym h.served.seat)
        (may_carry a.setting a.seat now.seen m k here copy may.manages h.goes_on (at_here next.0) (next_here (Some copy) next.1))))

    pub is_short : (short : Shortage) (why : MgrNo) → why ≡ no_of short → short ≡ shortage_in Collect told → Does Short → ManagerIsRefused a.setting a.seat now.seen m k why
    is_short short why for by does =
        let next = next_short _ (newest_in first told).config told does in
        subst (ManagerIsRefused a.setting a.seat now.seen m k) (sym (for ∙ ap no_of by))
        (refused_short a.setting a.seat now.seen m k here h.goes_on (at_here next.0) (next_here None next.1))

    -- where it is short, it was disturbed
    pub short_disturbed : length kept.newest.config.votes ≤ 16 → Does Short → IsUndisturbed a.setting now.seen m k a.troubles now.troubles → ⊥
    short_disturbed few does u =
        let next = next_short _ (newest_in first told).config told does in
        let same : kept.newest.config ≡ here.config = ap (λ (g : Gathered). g.newest.config) h.kept_is ∙ ap (λ (n : Newest). n.config) (sym (newest-told now.seen first m)) in
        never_short a.setting now.seen m k a.troubles now.troubles u here (at_here next.0) (subst (λ (c : Voting). length c.votes ≤ 16) same few) h.causes (next_here None next.1)
        (ap (λ (n : Newest). holds_read n.config (replied_in told)) (newest-told now.seen first m) ∙ next.0)

  pub copy_within : (copy : ℕ) → Does (Copy copy) → copy < 16
  copy_within copy does = next_within (newest_in first told).config told copy (next_copy_of _ (newest_in first told).config told copy does).1

  pub may_go_on : MayGoOn now.seat now.seen m k
  may_go_on = subst (λ seat. MayGoOn seat now.seen m k) (sym h.served.seat) h.goes_on

  module _ (then : CarrierView) (t : Told) (served : HasServed m now then) (heard : HasHeard now.seat now.seen then.seen m k Collect (t ∷ [])) where
    pub collects_on : TellHasCause then.seen m (Rose now.troubles then.troubles) t → (kept' : Gathered) → kept' ≡ gathered first (told ++ t ∷ []) → IsCollecting a then m k first kept'
    collects_on cause kept' is =
        record {
          served = served_further m a now then h.served served;
          goes_on = subst (λ seat. MayGoOn seat then.seen m k) h.served.seat heard.goes_on;
          elsewhere = λ p other. heard.elsewhere p other ∙ h.elsewhere p other;
          kept_is = is ∙ ap (gathered first) (sym heard.here);
          causes = causes_further a now then m Collect t h.served served heard.here h.causes cause;
        }

    pub fewer_left : (copy : ℕ) → Does (Copy copy) → t.copy ≡ copy → unasked (told_in then.seen m Collect) < unasked told
    fewer_left copy does its =
        let next = next_copy_of _ (newest_in first told).config told copy does in
        subst (λ ts. unasked ts < unasked told) (sym heard.here) (unasked_fewer (newest_in first told).config told t copy next.1 its)
