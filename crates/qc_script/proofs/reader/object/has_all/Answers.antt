use Rattle.std.proofs.Common.{sym, ◌∙◌, rules, tests}
use Rattle.std.specs.Prelude.{is_some}
use Rattle.std.proofs.lemmas.Iterator.{YieldsList-from_slice}
use Rattle.std.proofs.lemmas.Iterator.Search.{all_from_yields_List}
use Rattle.std.proofs.lemmas.List.Folds.{list_all-map}
use Rattle.serde_json.specs.Find.{get}
use Rattle.serde_json.specs.View.{view}
use Rattle.qc_script.proofs.reader.object.has_all.Goals as goal

pub returns : goal.returns
returns c =
    let d = view c.args.object.now in
    all_from_yields_List (λ n. is_some (get n.now d)) _ _ c.all.result c.all.ensures.ran (YieldsList-from_slice c.args.names.now cc) (λ x b q k. search (rules, tests))
    ∙ sym (list_all-map (λ n. is_some (get n d)) (λ n. n.now) c.args.names.now)
