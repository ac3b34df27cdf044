-- What an entry is of tells its event but for values.
use Rattle.std.proofs.Common.{◌≡◌, ℕ, List, refl, sym}
use Rattle.std.specs.Prelude.{Option, None, Some, slice_get}
use Rattle.std.specs.Option.{option_map}
use Rattle.std.proofs.lemmas.Option.{same_Some}
use Rattle.qc_config.specs.declared.tuple.Op.{Op}
use Rattle.qc_config.specs.declared.tuple.Op.TheVariants as op
use Rattle.qc_event.specs.declared.event.Answer.{Answer}
use Rattle.qc_event.specs.declared.event.Cause.{Cause}
use Rattle.qc_event.specs.declared.event.Entry.{Entry}
use Rattle.qc_event.specs.declared.event.Event.{Event}
use Rattle.qc_event.specs.declared.event.Event.TheVariants as event
use Rattle.qc_event.specs.declared.event.How.TheVariants as how
use Rattle.qc_event.specs.declared.event.Kind.{Kind}
use Rattle.qc_event.specs.declared.event.Kind.TheVariants as kind
use Rattle.qc_event.specs.History.{Name}
use Rattle.qc_trail.specs.declared.outline.Outline.{Outline}
use Rattle.qc_trail.specs.declared.outline.Outline.TheVariants.{Start, StartAccess, Ready, Commit, Abort}
use Rattle.qc_trail.specs.Outline.{op_outline, outline_of}

-- an entry stands at a place, and it is of this
pub record IsOutlined (entries : List Entry) (at : ℕ) (o : Outline) : Type 0 where
  pub entry : Entry
  pub there : slice_get entries at ≡ Some entry
  pub is : o ≡ outline_of entry.event

outlined_in : (got : Option Entry) (entries : List Entry) (at : ℕ) (o : Outline) → slice_get entries at ≡ got → option_map (λ (e : Entry). outline_of e.event) got ≡ Some o → IsOutlined entries at o
outlined_in None entries at o is of = absurd cc
outlined_in (Some e) entries at o is of = record { entry = e; there = is; is = sym (same_Some (outline_of e.event) o of) }

pub outlined : (entries : List Entry) (at : ℕ) (o : Outline) → option_map (λ (e : Entry). outline_of e.event) (slice_get entries at) ≡ Some o → IsOutlined entries at o
outlined entries at o of = outlined_in (slice_get entries at) entries at o refl of

-- BY WHAT IT IS OF

no_start : (o : Op) (n : Name) → Start n ≡ op_outline o → ⊥
no_start op.Get n is = absurd cc
no_start (op.PutData version value) n is = absurd cc
no_start (op.PutConfig generation config) n is = absurd cc

pub is_start : (e : Event) (n : Name) → Start n ≡ outline_of e → (k : Kind) × (e ≡ event.Start n k)
is_start (event.Start m kind.Access) n is = absurd cc
is_start (event.Start m (kind.User session body)) n is = (kind.User session body, cc)
is_start (event.Start m (kind.Read rec)) n is = (kind.Read rec, cc)
is_start (event.Start m (kind.Write rec value)) n is = (kind.Write rec value, cc)
is_start (event.Start m (kind.Reconf rec config)) n is = (kind.Reconf rec config, cc)
is_start (event.Ask ask) n is = absurd cc
is_start (event.Gone access why) n is = absurd cc
is_start (event.Refused access copy refusal) n is = absurd cc
is_start (event.Unable access why) n is = absurd cc
is_start (event.Mark by session) n is = absurd cc
is_start (event.Granted copy grant) n is = absurd (no_start grant.op n is)
is_start (event.Ready top) n is = absurd cc
is_start (event.End m (how.Commit answer)) n is = absurd cc
is_start (event.End m (how.Abort why)) n is = absurd cc

no_access : (o : Op) (n : Name) → StartAccess n ≡ op_outline o → ⊥
no_access op.Get n is = absurd cc
no_access (op.PutData version value) n is = absurd cc
no_access (op.PutConfig generation config) n is = absurd cc

pub is_access : (e : Event) (n : Name) → StartAccess n ≡ outline_of e → e ≡ event.Start n kind.Access
is_access (event.Start m kind.Access) n is = cc
is_access (event.Start m (kind.User session body)) n is = absurd cc
is_access (event.Start m (kind.Read rec)) n is = absurd cc
is_access (event.Start m (kind.Write rec value)) n is = absurd cc
is_access (event.Start m (kind.Reconf rec config)) n is = absurd cc
is_access (event.Ask ask) n is = absurd cc
is_access (event.Gone access why) n is = absurd cc
is_access (event.Refused access copy refusal) n is = absurd cc
is_access (event.Unable access why) n is = absurd cc
is_access (event.Mark by session) n is = absurd cc
is_access (event.Granted copy grant) n is = absurd (no_access grant.op n is)
is_access (event.Ready top) n is = absurd cc
is_access (event.End m (how.Commit answer)) n is = absurd cc
is_access (event.End m (how.Abort why)) n is = absurd cc

no_ready : (o : Op) (n : Name) → Ready n ≡ op_outline o → ⊥
no_ready op.Get n is = absurd cc
no_ready (op.PutData version value) n is = absurd cc
no_ready (op.PutConfig generation config) n is = absurd cc

pub is_ready : (e : Event) (n : Name) → Ready n ≡ outline_of e → e ≡ event.Ready n
is_ready (event.Start m kind.Access) n is = absurd cc
is_ready (event.Start m (kind.User session body)) n is = absurd cc
is_ready (event.Start m (kind.Read rec)) n is = absurd cc
is_ready (event.Start m (kind.Write rec value)) n is = absurd cc
is_ready (event.Start m (kind.Reconf rec config)) n is = absurd cc
is_ready (event.Ask ask) n is = absurd cc
is_ready (event.Gone access why) n is = absurd cc
is_ready (event.Refused access copy refusal) n is = absurd cc
is_ready (event.Unable access why) n is = absurd cc
is_ready (event.Mark by session) n is = absurd cc
is_ready (event.Granted copy grant) n is = absurd (no_ready grant.op n is)
is_ready (event.Ready top) n is = cc
is_ready (event.End m (how.Commit answer)) n is = absurd cc
is_ready (event.End m (how.Abort why)) n is = absurd cc

no_commit : (o : Op) (n : Name) → Commit n ≡ op_outline o → ⊥
no_commit op.Get n is = absurd cc
no_commit (op.PutData version value) n is = absurd cc
no_commit (op.PutConfig generation config) n is = absurd cc

pub is_commit : (e : Event) (n : Name) → Commit n ≡ outline_of e → (a : Answer) × (e ≡ event.End n (how.Commit a))
is_commit (event.Start m kind.Access) n is = absurd cc
is_commit (event.Start m (kind.User session body)) n is = absurd cc
is_commit (event.Start m (kind.Read rec)) n is = absurd cc
is_commit (event.Start m (kind.Write rec value)) n is = absurd cc
is_commit (event.Start m (kind.Reconf rec config)) n is = absurd cc
is_commit (event.Ask ask) n is = absurd cc
is_commit (event.Gone access why) n is = absurd cc
is_commit (event.Refused access copy refusal) n is = absurd cc
is_commit (event.Unable access why) n is = absurd cc
is_commit (event.Mark by session) n is = absurd cc
is_commit (event.Granted copy grant) n is = absurd (no_commit grant.op n is)
is_commit (event.Ready top) n is = absurd cc
is_commit (event.End m (how.Commit answer)) n is = (answer, cc)
is_commit (event.End m (how.Abort why)) n is = absurd cc

no_abort : (o : Op) (n : Name) → Abort n ≡ op_outline o → ⊥
no_abort op.Get n is = absurd cc
no_abort (op.PutData version value) n is = absurd cc
no_abort (op.PutConfig generation config) n is = absurd cc

pub is_abort : (e : Event) (n : Name) → Abort n ≡ outline_of e → (c : Cause) × (e ≡ event.End n (how.Abort c))
is_abort (event.Start m kind.Access) n is = absurd cc
is_abort (event.Start m (kind.User session body)) n is = absurd cc
is_abort (event.Start m (kind.Read rec)) n is = absurd cc
is_abort (event.Start m (kind.Write rec value)) n is = absurd cc
is_abort (event.Start m (kind.Reconf rec config)) n is = absurd cc
is_abort (event.Ask ask) n is = absurd cc
is_abort (event.Gone access why) n is = absurd cc
is_abort (event.Refused access copy refusal) n is = absurd cc
is_abort (event.Unable access why) n is = absurd cc
is_abort (event.Mark by session) n is = absurd cc
is_abort (event.Granted copy grant) n is = absurd (no_abort grant.op n is)
is_abort (event.Ready top) n is = absurd cc
is_abort (event.End m (how.Commit answer)) n is = absurd cc
is_abort (event.End m (how.Abort why)) n is = (why, cc)
