-- What a manager has done at its commit, as a fact of the list of what it was given.
use Rattle.std.proofs.Common.{◌≡◌, ℕ, ◌+◌, Bool, true, List, [], ◌∷◌, sym, ap, ap₂, ◌∙◌, subst}
use Rattle.std.specs.Prelude.{fold}
use Rattle.std.proofs.lemmas.List.Elements.{All-nil, All-cons}
use Rattle.qc_config.specs.Config.{Voting, IsLegal, holds_read, holds_write}
use Rattle.qc_config.specs.Val.{Datum}
use Rattle.qc_config.specs.declared.tuple.Op.{Op}
use Rattle.qc_config.specs.declared.tuple.Op.TheVariants.{PutData, PutConfig}
use Rattle.qc_event.specs.declared.event.Answer.{Answer}
use Rattle.qc_event.specs.declared.event.Kind.{Kind}
use Rattle.qc_event.specs.declared.event.Kind.TheVariants as kind
use Rattle.qc_event.specs.declared.event.Phase.TheVariants.{Values, Configs}
use Rattle.qc_event.specs.Base.{Setting, first_of}
use Rattle.qc_event.specs.History.{Past, Name, Given}
use Rattle.qc_event.specs.Manager.{Newest, Greatest, newer, newest, greatest, greatest_among, replied, first_for}
use Rattle.qc_event.proofs.KindFits.{KindFits}
use Rattle.qc_serial.specs.Visible.{served}
use Rattle.qc_refine.specs.Given as given
use Rattle.qc_refine.specs.Given.{AllDo}
use Rattle.qc_refine.specs.Complete.{HasCollected, HasRead, HasWritten, HasMoved, HasDone}
use Rattle.qc_refine.specs.Completed.{Each, Collected, Stored, newest_of, greatest_of}
use Rattle.qc_refine.specs.InTurn.{Complete}

each : (op : Op) (gs : List Given) → AllDo op gs → Each op gs
each op [] all = All-nil (λ (g : Given). g.grant.op ≡ op)
each op (g ∷ gs) all = All-cons (λ (g : Given). g.grant.op ≡ op) g gs all.0 (each op gs all.1)

module _ (past : Past) (first : Voting) (m : Name) (gets : List Given) (has : HasCollected past first m gets) where
  newest_is : newest past first m ≡ newest_of first gets
  newest_is = ap (fold newer (record { generation = 0; config = first })) has.same_replies

  greatest_is : greatest past m ≡ greatest_of gets
  greatest_is = ap greatest_among has.same_replies

  collected : Collected first gets
  collected = record {
    reads = each _ gets has.all_get;
    enough = sym (ap₂ (λ (n : Newest) marks. holds_read n.config marks) newest_is has.same_copies) ∙ has.quorum;
  }

stored : (config : Voting) (op asked : Op) (puts : List Given) (marks : List Bool) → marks ≡ given.marks_of puts → AllDo asked puts → asked ≡ op → holds_write config marks ≡ true → Stored config op puts
stored config op asked puts marks same all is quorum = record {
  stores = subst (λ o. Each o puts) is (each asked puts all);
  enough = sym (ap (holds_write config) same) ∙ quorum;
}

module _ (setting : Setting) (past : Past) (m : Name) where
  read_done : (rec : ℕ) (told : Answer) → HasRead past (first_of setting rec) m told → Complete (first_of setting rec) (kind.Read rec) told (served past m)
  read_done rec told has =
      let first = first_of setting rec in
      subst (λ a. Complete first (kind.Read rec) a (served past m)) (sym has.answers) (record {
        collected = collected past first m (served past m) has.collected;
        answered = ap (λ (g : Greatest). g.value) (greatest_is past first m (served past m) has.collected);
      })

  write_done : (rec : ℕ) (value : Datum) (told : Answer) → HasWritten past (first_of setting rec) m value told → Complete (first_of setting rec) (kind.Write rec value) told (served past m)
  write_done rec value told has =
      let first = first_of setting rec in
      let newest_same = newest_is past first m has.gets has.collected in
      let greatest_same = greatest_is past first m has.gets has.collected in
      subst (λ a. Complete first (kind.Write rec value) a (served past m)) (sym has.answers) (record {
        gets = has.gets;
        puts = has.puts;
        parts = has.parts;
        collected = collected past first m has.gets has.collected;
        stored = stored (newest_of first has.gets).config (PutData ((greatest_of has.gets).version + 1) value) (PutData ((greatest past m).version + 1) value) has.puts
            (replied past m Values) has.same_copies has.all_put
            (ap (λ (g : Greatest). PutData (g.version + 1) value) greatest_same)
            (ap (λ (n : Newest). holds_write n.config (replied past m Values)) (sym newest_same) ∙ has.quorum);
      })

  move_done : (rec : ℕ) (config : Voting) (told : Answer) → IsLegal config → HasMoved past (first_of setting rec) m config told → Complete (first_of setting rec) (kind.Reconf rec config) told (served past m)
  move_done rec config told legal has =
      let first = first_of setting rec in
      let newest_same = newest_is past first m has.gets has.collected in
      let greatest_same = greatest_is past first m has.gets has.collected in
      subst (λ a. Complete first (kind.Reconf rec config) a (served past m)) (sym has.answers) (record {
        gets = has.gets;
        puts = has.puts;
        moves = has.configs;
        parts = has.parts;
        legal = legal;
        collected = collected past first m has.gets has.collected;
        stored = stored config (PutData (greatest_of has.gets).version (greatest_of has.gets).value) (PutData (greatest past m).version (greatest past m).value) has.puts
            (replied past m Values) has.put_copies has.all_put
            (ap (λ (g : Greatest). PutData g.version g.value) greatest_same)
            has.put_quorum;
        moved = stored (newest_of first has.gets).config (PutConfig ((newest_of first has.gets).generation + 1) config) (PutConfig ((newest past first m).generation + 1) config) has.configs
            (replied past m Configs) has.move_copies has.all_move
            (ap (λ (n : Newest). PutConfig (n.generation + 1) config) newest_same)
            (ap (λ (n : Newest). holds_write n.config (replied past m Configs)) (sym newest_same) ∙ has.move_quorum);
        answered = ap (λ (n : Newest). n.generation + 1) newest_same;
      })

  -- a manager that has done what its kind wants is complete
  pub complete_done : (k : Kind) (told : Answer) → KindFits setting k → HasDone setting past m told k → Complete (first_for setting k) k told (served past m)
  complete_done (kind.Read rec) told fits has = read_done rec told has
  complete_done (kind.Write rec value) told fits has = write_done rec value told has
  complete_done (kind.Reconf rec config) told fits has = move_done rec config told fits.2 has
  complete_done (kind.User session body) told fits has = absurd has
  complete_done kind.Access told fits has = absurd has
