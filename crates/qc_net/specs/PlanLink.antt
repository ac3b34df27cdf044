-- What a link in memory tells.
use Rattle.std.specs.Prelude.{ℕ, ◌++◌, take, drop}
use Rattle.qc_net.specs.Plan.{Plan}
use Rattle.qc_net.specs.declared.plan.PlanLink.{PlanLink}

-- its plan
abbrev pub plan_of : PlanLink → Plan
plan_of link = record {
  first = link.fates.items;
  coming = drop link.at link.fates.items ++ take link.at link.fates.items;
  hold = link.hold;
  waited = link.waited;
}

-- how often it gave trouble
abbrev pub troubles_of : PlanLink → ℕ
troubles_of link = link.troubles
