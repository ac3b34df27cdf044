-- What a manager that commits was given holds the quorums that its kind wants.
use Rattle.std.proofs.Common.{◌≡◌, ℕ, ◌<◌, true, [], ◌∷◌, ◌++◌, length, sym, ap, ◌∙◌, subst, inl, inr, ◌⊎◌, append-nil, arith}
use Rattle.std.specs.Prelude.{Some, IsTrue, not}
use Rattle.std.specs.List.{list_all}
use Rattle.std.proofs.lemmas.Bool.{and_parts}
use Rattle.std.proofs.lemmas.Option.{same_Some}
use Rattle.qc_config.specs.Config.{Voting}
use Rattle.qc_config.specs.Val.{Datum}
use Rattle.qc_event.specs.declared.event.Answer.{Answer}
use Rattle.qc_event.specs.declared.event.How.TheVariants.{Commit}
use Rattle.qc_event.specs.declared.event.Kind.{Kind}
use Rattle.qc_event.specs.declared.event.Kind.TheVariants as kind
use Rattle.qc_event.specs.Base.{Setting, first_of}
use Rattle.qc_event.specs.History.{Past, Name, Begun, start, end}
use Rattle.qc_event.specs.Standing.{IsManager}
use Rattle.qc_event.specs.Manager.{stages, is_enough, is_complete, first_for, at_last_number}
use Rattle.qc_event.specs.Commits.{MayCommitManager}
use Rattle.qc_event.specs.Legal.{Legal}
use Rattle.qc_event.proofs.KindFits.{kind_fits}
use Rattle.qc_event.proofs.Lawful.{lawful}
use Rattle.qc_event.proofs.LegalOrderly.{legal_orderly}
use Rattle.qc_serial.specs.Visible.{served}
use Rattle.qc_refine.specs.Complete.{HasCollected, HasRead, HasWritten, HasMoved, HasDone, AllWithin}
use Rattle.qc_refine.proofs.Managers.Stages.{kind_sized}
use Rattle.qc_refine.proofs.Managers.KindsBelow.{HasKind}
use Rattle.qc_refine.proofs.Managers.Parted.{IsParted, parted}
use Rattle.qc_refine.proofs.Managers.Steady.{IsThrough, through}
use Rattle.qc_refine.proofs.Copies.Within.{served_within}

unless_kind : {A B : Type 0} → A ⊎ B → (B → ⊥) → A
unless_kind (inl a) never = a
unless_kind (inr b) never = absurd (never b)

-- every stage is enough
all_enough : (past : Past) (first : Voting) (m : Name) (k : Kind) → IsTrue (is_complete past first m k) → list_all (is_enough past m) (stages past first m k) ≡ true
all_enough past first m k complete = (and_parts (not (at_last_number past first m k)) _ complete).1

module _ (setting : Setting) (past : Past) (m : Name) (given : Answer) where
  read_done : (rec : ℕ) → IsParted past (first_of setting rec) m (kind.Read rec) → IsThrough past (first_of setting rec) m (kind.Read rec) given → HasRead past (first_of setting rec) m given
  read_done rec p may =
      let enough = and_parts _ true (all_enough past (first_of setting rec) m (kind.Read rec) may.complete) in
      let only : served past m ≡ p.gets = p.parts ∙ ap (λ r. p.gets ++ r) (ap (λ r. r ++ p.configs) (unless_kind p.only_puts (λ h. h)) ∙ unless_kind p.only_moves (λ h. h)) ∙ append-nil p.gets in
      record {
        collected = subst (HasCollected past (first_of setting rec) m) (sym only) (record { all_get = p.all_get; same_replies = p.same_replies; same_copies = p.get_copies; quorum = enough.0 });
        answers = may.answers;
      }

  write_done : (rec : ℕ) (value : Datum) → IsParted past (first_of setting rec) m (kind.Write rec value) → IsThrough past (first_of setting rec) m (kind.Write rec value) given → HasWritten past (first_of setting rec) m value given
  write_done rec value p may =
      let enough = and_parts _ _ (all_enough past (first_of setting rec) m (kind.Write rec value) may.complete) in
      let written = and_parts _ true enough.1 in
      record {
        gets = p.gets;
        puts = p.puts;
        parts = p.parts ∙ ap (λ r. p.gets ++ (p.puts ++ r)) (unless_kind p.only_moves (λ h. h)) ∙ ap (λ r. p.gets ++ r) (append-nil p.puts);
        collected = record { all_get = p.all_get; same_replies = p.same_replies; same_copies = p.get_copies; quorum = enough.0 };
        all_put = p.all_put;
        same_copies = p.put_copies;
        quorum = written.0;
        answers = may.answers;
      }

  move_done : (rec : ℕ) (config : Voting) → IsParted past (first_of setting rec) m (kind.Reconf rec config) → IsThrough past (first_of setting rec) m (kind.Reconf rec config) given → HasMoved past (first_of setting rec) m config given
  move_done rec config p may =
      let enough = and_parts _ _ (all_enough past (first_of setting rec) m (kind.Reconf rec config) may.complete) in
      let written = and_parts _ _ enough.1 in
      let moved = and_parts _ true written.1 in
      record {
        gets = p.gets;
        puts = p.puts;
        configs = p.configs;
        parts = p.parts;
        collected = record { all_get = p.all_get; same_replies = p.same_replies; same_copies = p.get_copies; quorum = enough.0 };
        all_put = p.all_put;
        put_copies = p.put_copies;
        put_quorum = written.0;
        all_move = p.all_move;
        move_copies = p.move_copies;
        move_quorum = moved.0;
        answers = may.answers;
      }

  by_kind : (k : Kind) → IsManager k → IsParted past (first_for setting k) m k → IsThrough past (first_for setting k) m k given → HasDone setting past m given k
  by_kind (kind.Read rec) manager p may = read_done rec p may
  by_kind (kind.Write rec value) manager p may = write_done rec value p may
  by_kind (kind.Reconf rec config) manager p may = move_done rec config p may
  by_kind _ manager p may = absurd manager

-- what holds of a started manager
pub record IsStarted (past : Past) (m : Name) (k : Kind) : Type 0 where
  pub below_root : 0 < length m
  pub has : HasKind past m k

pub is_started : (setting : Setting) (past : Past) (m : Name) (b : Begun) → Legal setting past → start past m ≡ Some b → IsStarted past m b.kind
is_started setting past m b legal is = record { below_root = not_root m is; has = λ c at. ap (λ (x : Begun). x.kind) (same_Some c b (sym at ∙ is)) }
  where
    not_root : (n : Name) → start past n ≡ Some b → 0 < length n
    not_root [] at = absurd (let none = (lawful past (legal_orderly setting past legal)).no_root_start in let differ = sym none ∙ at in cc)
    not_root (x ∷ n) at = omega arith

done : (setting : Setting) (past : Past) (m : Name) (b : Begun) (given : Answer) → Legal setting past → start past m ≡ Some b → IsManager b.kind → IsThrough past (first_for setting b.kind) m b.kind given → HasDone setting past m given b.kind
done setting past m b given legal is manager may =
    let s = is_started setting past m b legal is in
    by_kind setting past m given b.kind manager (parted setting past m b.kind legal s.below_root s.has manager) may

-- what a manager that may commit has done
pub committing_done : (setting : Setting) (past : Past) (seat : ℕ) (m : Name) (b : Begun) (given : Answer) → Legal setting past → start past m ≡ Some b → IsManager b.kind → MayCommitManager setting past seat m b given → HasDone setting past m given b.kind
committing_done setting past seat m b given legal is manager may = done setting past m b given legal is manager (record { complete = may.complete; answers = may.answers })

-- what a manager that committed has done
pub committed_done : (setting : Setting) (past : Past) (m : Name) (b : Begun) (given : Answer) → Legal setting past → start past m ≡ Some b → IsManager b.kind → end past m ≡ Some (Commit given) → HasDone setting past m given b.kind
committed_done setting past m b given legal is manager ended =
    let s = is_started setting past m b legal is in
    done setting past m b given legal is manager (through setting past m b.kind given legal s.below_root s.has manager ended)

-- and where its grants are from, where the record's first configuration is for every copy
pub manager_within : (setting : Setting) (past : Past) (m : Name) (b : Begun) → Legal setting past → start past m ≡ Some b → IsManager b.kind → length (first_for setting b.kind).votes ≡ length setting.base → AllWithin setting b.kind (served past m)
manager_within setting past m b legal is manager sized =
    let s = is_started setting past m b legal is in
    served_within setting m b.kind s.below_root manager sized (kind_sized setting b.kind (kind_fits setting past m b legal is)) past legal s.has
