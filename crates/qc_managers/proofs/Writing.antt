-- A manager that writes: what it puts after its collection, and that it may commit then.
use Rattle.std.proofs.Common.{◌≡◌, ℕ, ◌+◌, ◌^◌, ◌-◌, List, [], ◌∷◌, refl, sym, ap, ◌∙◌}
use Rattle.std.proofs.lemmas.Bool.{eq-eqb, ne_eqb}
use Rattle.qc_config.specs.Config.{Voting}
use Rattle.qc_config.specs.Val.{Datum}
use Rattle.qc_config.specs.declared.tuple.Op.TheVariants.{PutData}
use Rattle.qc_event.specs.Base.{first_of}
use Rattle.qc_event.specs.declared.event.Answer.TheVariants as answer
use Rattle.qc_event.specs.declared.event.Kind.{Kind}
use Rattle.qc_event.specs.declared.event.Kind.TheVariants as kind
use Rattle.qc_event.specs.declared.event.Phase.TheVariants.{Collect, Values}
use Rattle.qc_event.specs.History.{Name}
use Rattle.qc_event.specs.Manager.{Stage, Newest, Greatest, collecting, newest, greatest}
use Rattle.qc_managers.specs.Gathered.{Gathered}
use Rattle.qc_managers.specs.Told.{Told, newest_in, greatest_in}
use Rattle.qc_managers.specs.Answered.{told_in}
use Rattle.qc_managers.specs.Carrying.{CarrierView}
use Rattle.qc_managers.specs.Going.{HasPut, putting}
use Rattle.qc_managers.specs.declared.no.MgrNo.TheVariants as mgr
use Rattle.qc_managers.specs.Managed.{IsAnswered, ManagerIsRefused}
use Rattle.qc_managers.proofs.Answered.{kind_at}
use Rattle.qc_managers.proofs.Known.{newest-told, greatest-told}
use Rattle.qc_managers.proofs.Onwards.{HasGathered, IsAtStage, at_last, at_first, may_commit}
use Rattle.qc_managers.proofs.Stages.{greatest_stays}

module _ (a now : CarrierView) (m : Name) (rec : ℕ) (value : Datum) (kept : Gathered) (h : HasGathered a now m (kind.Write rec value) kept) where
  abbrev first : Voting
  first = first_of a.setting rec

  abbrev told : List Told
  told = told_in now.seen m Collect

  abbrev write : Kind
  write = kind.Write rec value

  -- what it found is the greatest version told
  found : (version : ℕ) → version ≡ (greatest_in told).version → (greatest now.seen m).version ≡ version
  found version is = ap (λ (g : Greatest). g.version) (greatest-told now.seen m) ∙ sym is

  pub at_last_version : (version : ℕ) → version ≡ (greatest_in told).version → version ≡ 2 ^ 64 - 1 → ManagerIsRefused a.setting a.seat now.seen m write mgr.Last
  at_last_version version is last = at_last a now m write kept h (eq-eqb (greatest now.seen m).version (2 ^ 64 - 1) (found version is ∙ last))

  module _ (version : ℕ) (config : Voting) (is : version ≡ (greatest_in told).version) (not_last : version ≡ 2 ^ 64 - 1 → ⊥) (by : config ≡ (newest_in first told).config) where
    abbrev pub puts : Stage
    puts = putting config Values (PutData (version + 1) value)

    newest_is : (newest now.seen first m).config ≡ config
    newest_is = ap (λ (n : Newest). n.config) (newest-told now.seen first m) ∙ sym by

    pub comes_to_put : IsAtStage a now m write (collecting (newest now.seen first m) ∷ []) puts []
    comes_to_put =
        at_first a now m write kept h puts [] (ne_eqb (greatest now.seen m).version (2 ^ 64 - 1) (λ last. not_last (sym (found version is) ∙ last)))
        (ap (λ (c : Voting). collecting (newest now.seen first m) ∷ putting c Values (PutData ((greatest now.seen m).version + 1) value) ∷ []) newest_is
        ∙ ap (λ v. collecting (newest now.seen first m) ∷ putting config Values (PutData (v + 1) value) ∷ []) (found version is)) refl refl

    module _ (after : CarrierView) (put : HasPut now.seat now.seen after.seen m (kind_at now.seen m) puts) where
      pub is_next : version + 1 ≡ (greatest after.seen m).version + 1
      is_next = ap (λ v. v + 1) (sym (ap (λ (g : Greatest). g.version) (greatest_stays now.seen after.seen m Values put.elsewhere first write refl) ∙ found version is))

      -- a manager that has put enough may commit
      pub has_written : IsAnswered a.setting a.seat after.seen m write answer.Nothing
      has_written = may_commit a now m write (collecting (newest now.seen first m) ∷ []) puts [] comes_to_put after put refl answer.Nothing refl
