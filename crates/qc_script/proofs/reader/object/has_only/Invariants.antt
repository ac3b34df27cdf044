use Rattle.std.proofs.Common.{◌≡◌, map}
use Rattle.serde_json.specs.View.{members_view}
use Rattle.qc_script.specs.JsonText as json
use Rattle.qc_script.proofs.reader.object.has_only.Given as goal

-- the members that are left decide
abbrev pub invariant-loop-name : goal.invariant-loop-name
invariant-loop-name l =
    json.has_only (map (λ n. n.now) l.needed) (map (λ n. n.now) l.others) (members_view l.name-iterator)
    ≡ json.has_only (map (λ n. n.now) l.needed) (map (λ n. n.now) l.others) (members_view l.members.entries)
