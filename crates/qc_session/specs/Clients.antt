-- Who a client is, by its pass.
use Rattle.std.specs.Prelude.{ℕ, ◌≡◌, List, [], map, Option, Some}
use Rattle.std.specs.Option.{option_map}
use Rattle.qc_carry.specs.Kept as kept
use Rattle.qc_event.specs.Base.{Setting}
use Rattle.qc_event.specs.History.{Past, Name}
use Rattle.qc_interp.specs.FollowsScript.{net_of}
use Rattle.qc_net.specs.Messages.{Net}
use Rattle.qc_net.specs.Plan.{Plan}
use Rattle.qc_desk.specs.declared.view.View.{View as Pass}
use Rattle.qc_desk.specs.Entries.{entries_of}
use Rattle.qc_desk.specs.Rules.{Has}
use Rattle.qc_script.specs.Client.{Client, ClientView}
use Rattle.qc_script.specs.Plan.{SessionPlan}

-- the link of a client, where it tells its plan
abbrev pub link_told : Option Plan → ℕ → Option Net
link_told plan patience = option_map (λ p. kept.net_of p patience) plan

-- the numbers of those that were joined into a pass
abbrev pub kin_of : Pass → List ℕ
kin_of pass = map (λ (p : ℕ × Past). p.0) pass.kin

-- a client of a session that stands below a transaction, by its pass
abbrev pub client_of : Setting → Name → ℕ → ℕ → Option Net → Pass → Client
client_of setting root session epoch net pass = record {
  number = pass.number;
  root = root;
  kin = kin_of pass;
  out = pass.out;
  session = session;
  epoch = epoch;
  setting = setting;
  net = net;
}

-- the client of a script's session, over its link
abbrev pub client_for : Setting → ℕ → ℕ → ℕ → SessionPlan → Pass → Client
client_for setting epoch patience session plan pass = client_of setting [] session epoch (Some (net_of patience plan)) pass

-- that client, and what its pass has seen
abbrev pub view_of : Setting → Name → ℕ → ℕ → Option Net → Pass → ClientView
view_of setting root session epoch net pass = record { client = client_of setting root session epoch net pass; seen = pass.seen }

-- A pass is of a client, which has gone on since, while none of the client's merged branches has entered anything.
pub record IsFor (setting : Setting) (v w : Pass) (c : Client) : Type 0 where
  pub number : c.number ≡ v.number
  pub kin_still : (k : ℕ) → Has c.kin k → entries_of k w.seen ≡ entries_of k v.seen
  pub setting_is : c.setting ≡ setting
