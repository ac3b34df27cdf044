-- A manager that reconfigures: what it puts after its collection, and that it may commit then.
use Rattle.std.proofs.Common.{◌≡◌, ℕ, ◌+◌, ◌^◌, ◌-◌, false, List, [], ◌∷◌, refl, sym, ap, ◌∙◌}
use Rattle.std.specs.Prelude.{IsTrue}
use Rattle.std.proofs.lemmas.Bool.{eq-eqb, ne_eqb}
use Rattle.std.proofs.lemmas.List.Elements.{All-from_recursion}
use Rattle.qc_config.specs.Config.{Voting, holds_write}
use Rattle.qc_config.specs.Val.{Datum}
use Rattle.qc_config.specs.declared.tuple.Op.TheVariants.{PutData, PutConfig}
use Rattle.qc_event.specs.Base.{first_of}
use Rattle.qc_event.specs.declared.event.Answer.TheVariants as answer
use Rattle.qc_event.specs.declared.event.Kind.{Kind}
use Rattle.qc_event.specs.declared.event.Kind.TheVariants as kind
use Rattle.qc_event.specs.declared.event.Phase.TheVariants.{Collect, Values, Configs}
use Rattle.qc_event.specs.History.{Name}
use Rattle.qc_event.specs.Manager.{Stage, Newest, Greatest, collecting, newest, greatest, is_phase, replied}
use Rattle.qc_managers.specs.Gathered.{Gathered}
use Rattle.qc_managers.specs.Told.{Told, newest_in, greatest_in}
use Rattle.qc_managers.specs.declared.no.MgrNo.TheVariants as mgr
use Rattle.qc_managers.specs.Answered.{told_in}
use Rattle.qc_managers.specs.Carrying.{CarrierView}
use Rattle.qc_managers.specs.Going.{HasServed, HasPut, putting}
use Rattle.qc_managers.specs.Managed.{IsAnswered, ManagerIsRefused}
use Rattle.qc_managers.proofs.Answered.{kind_at, nothing_told}
use Rattle.qc_managers.proofs.Known.{newest-told, greatest-told}
use Rattle.qc_managers.proofs.Onwards.{HasGathered, IsAtStage, at_last, at_first, at_next, may_commit}
use Rattle.qc_managers.proofs.Stages.{enough_stays, newest_stays}

module _ (a now : CarrierView) (m : Name) (rec : ℕ) (new : Voting) (kept : Gathered) (h : HasGathered a now m (kind.Reconf rec new) kept) where
  abbrev first : Voting
  first = first_of a.setting rec

  abbrev told : List Told
  told = told_in now.seen m Collect

  abbrev reconf : Kind
  reconf = kind.Reconf rec new

  abbrev pub collects : Stage
  collects = collecting (newest now.seen first m)

  -- the newest generation is the one that was told
  found : (generation : ℕ) → generation ≡ (newest_in first told).generation → (newest now.seen first m).generation ≡ generation
  found generation is = ap (λ (n : Newest). n.generation) (newest-told now.seen first m) ∙ sym is

  pub at_last_generation : (generation : ℕ) → generation ≡ (newest_in first told).generation → generation ≡ 2 ^ 64 - 1 → ManagerIsRefused a.setting a.seat now.seen m reconf mgr.Last
  at_last_generation generation is last = at_last a now m reconf kept h (eq-eqb (newest now.seen first m).generation (2 ^ 64 - 1) (found generation is ∙ last))

  module _ (generation : ℕ) (old : Voting) (version : ℕ) (value : Datum) (generation_is : generation ≡ (newest_in first told).generation) (old_is : old ≡ (newest_in first told).config) (version_is : version ≡ (greatest_in told).version) (value_is : value ≡ (greatest_in told).value) (not_last : generation ≡ 2 ^ 64 - 1 → ⊥) where
    -- the value as it is, by the new configuration
    abbrev pub moves : Stage
    moves = putting new Values (PutData version value)

    -- the new configuration, by the one that was the newest
    abbrev pub teaches : Stage
    teaches = putting old Configs (PutConfig (generation + 1) new)

    old_found : (newest now.seen first m).config ≡ old
    old_found = ap (λ (n : Newest). n.config) (newest-told now.seen first m) ∙ sym old_is

    pub comes_to_move : IsAtStage a now m reconf (collects ∷ []) moves (teaches ∷ [])
    comes_to_move =
        at_first a now m reconf kept h moves (teaches ∷ []) (ne_eqb (newest now.seen first m).generation (2 ^ 64 - 1) (λ last. not_last (sym (found generation generation_is) ∙ last)))
        (ap (λ v. collects ∷ putting new Values (PutData v (greatest now.seen m).value) ∷ putting (newest now.seen first m).config Configs (PutConfig ((newest now.seen first m).generation + 1) new) ∷ []) (ap (λ (g : Greatest). g.version) (greatest-told now.seen m) ∙ sym version_is)
        ∙ ap (λ v. collects ∷ putting new Values (PutData version v) ∷ putting (newest now.seen first m).config Configs (PutConfig ((newest now.seen first m).generation + 1) new) ∷ []) (ap (λ (g : Greatest). g.value) (greatest-told now.seen m) ∙ sym value_is)
        ∙ ap (λ c. collects ∷ moves ∷ putting c Configs (PutConfig ((newest now.seen first m).generation + 1) new) ∷ []) old_found
        ∙ ap (λ n. collects ∷ moves ∷ putting old Configs (PutConfig (n + 1) new) ∷ []) (found generation generation_is)) refl refl

    -- once it has moved the value
    module _ (mid : CarrierView) (served : HasServed m now mid) (moved : HasPut now.seat now.seen mid.seen m (kind_at now.seen m) moves) where
      pub comes_to_teach : IsAtStage a mid m reconf (collects ∷ moves ∷ []) teaches []
      comes_to_teach =
          at_next a now m reconf (collects ∷ []) moves (teaches ∷ []) comes_to_move mid moved served teaches [] refl refl refl
          (All-from_recursion (λ (e : Stage). is_phase e.phase Configs ≡ false) (collects ∷ moves ∷ []) (refl, (refl, tt)))
          (moved.elsewhere Configs refl ∙ h.collected.elsewhere Configs refl ∙ nothing_told a.seen m Configs h.nothing_asked)

      -- and once it has put the new configuration too
      module _ (after : CarrierView) (taught : HasPut mid.seat mid.seen after.seen m (kind_at mid.seen m) teaches) where
        newest_after : newest after.seen first m ≡ newest now.seen first m
        newest_after =
            newest_stays mid.seen after.seen m Configs taught.elsewhere first reconf refl ∙ newest_stays now.seen mid.seen m Values moved.elsewhere first reconf refl

        pub is_next : generation + 1 ≡ (newest after.seen first m).generation + 1
        is_next = ap (λ n. n + 1) (sym (ap (λ (n : Newest). n.generation) newest_after ∙ found generation generation_is))

        pub has_moved : IsTrue (holds_write new (replied after.seen m Values))
        has_moved = enough_stays mid.seen after.seen m Configs taught.elsewhere moves refl ∙ moved.enough

        pub has_taught : IsTrue (holds_write (newest after.seen first m).config (replied after.seen m Configs))
        has_taught = ap (λ (c : Voting). holds_write c (replied after.seen m Configs)) (ap (λ (n : Newest). n.config) newest_after ∙ old_found) ∙ taught.enough

        -- it may commit with the new generation
        pub has_reconfigured : IsAnswered a.setting a.seat after.seen m reconf (answer.Generation (generation + 1))
        has_reconfigured =
            may_commit a mid m reconf (collects ∷ moves ∷ []) teaches [] comes_to_teach after taught refl (answer.Generation (generation + 1)) (ap answer.Generation is_next)
