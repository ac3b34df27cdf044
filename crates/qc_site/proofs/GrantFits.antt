-- A grant of what was asked, with the tuple that its copy has then, fits the form in which grants are written. What the
-- rules of histories do not say, the types of numbers do.
use Rattle.std.proofs.Common.{◌≡◌, ℕ, ◌^◌, ◌<◌, length, sym, subst}
use Rattle.std.specs.Prelude.{slice_index}
use Rattle.qc_config.proofs.Faults.{legal_faultless}
use Rattle.qc_config.specs.declared.tuple.Tuple.{Tuple}
use Rattle.qc_config.specs.Tuple.{after}
use Rattle.qc_event.specs.declared.event.Ask.{Ask}
use Rattle.qc_event.specs.Base.{Setting, IsProper, IsConfigFor}
use Rattle.qc_event.specs.Grants.{Sets, grant_with}
use Rattle.qc_event.specs.History.{Past, asked}
use Rattle.qc_event.specs.Legal.{Legal}
use Rattle.qc_event.specs.Seen.{seen}
use Rattle.qc_event.proofs.AccessNames.{asked_name}
use Rattle.qc_event.proofs.MayGrant.{sets_after}
use Rattle.qc_event.proofs.LegalConfigs.{left_config}
use Rattle.qc_desk.specs.Consulting.{HasAsked}
use Rattle.qc_desk.proofs.Consulting.{stands}
use Rattle.qc_codec.proofs.Fits.{IsConfigInRange, config_fits, granted_fits, name_fits, tuple_fits}
use Rattle.qc_codec.specs.Fields.{current, current_format, datum}
use Rattle.qc_codec.specs.Bodies.{grant}

pub grant_fits : (setting : Setting) (past : Past) (copies : ℕ) (ask : Ask) (t : Tuple) → IsProper setting → Legal setting past → copies ≡ length setting.base → HasAsked past ask
    → t ≡ after (seen setting.base past ask.copy ask.rec) ask.op → ask.rec < 256 → slice_index ask.access 0 < 2 ^ 64 → ((k : ℕ) → 0 < k → slice_index ask.access k < 2 ^ 32)
    → t.version < 2 ^ 64 → (datum current_format).fits t.value → t.generation < 2 ^ 64 → IsConfigInRange t.config → (grant (current copies)).fits (grant_with ask t)
unfolding grant
grant_fits setting past copies ask t proper legal counted has is small first rest version value generation range =
    let request = stands (asked past ask.access) ask has in
    let named = asked_name setting past ask.access (record { seat = request.0; ask = ask }) legal request.1 in
    let for_base = left_config setting past ask.access (record { seat = request.0; ask = ask }) proper legal request.1 in
    let for_copies : IsConfigFor copies t.config = subst (λ n. IsConfigFor n t.config) (sym counted) (subst (λ (x : Tuple). IsConfigFor (length setting.base) x.config) (sym is) for_base) in
    let access_fits = name_fits 3 ask.access named.long (record { short = named.short; first = first; rest = rest }) named.numbered in
    let config_there = config_fits (current copies) t.config for_copies.for_copies (legal_faultless t.config for_copies.legal) range in
    granted_fits 3 (current copies) (grant_with ask t) access_fits small (tuple_fits (current copies) t version value generation config_there)
    (subst (Sets ask.op) (sym is) (sets_after ask.op (seen setting.base past ask.copy ask.rec)))
