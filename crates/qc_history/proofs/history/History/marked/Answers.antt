use Rattle.std.proofs.Common.{◌≡◌, false, sym, ap, ◌∙◌, subst}
use Rattle.std.specs.Prelude.{option_and_then}
use Rattle.std.specs.Option.{option_map_or}
use Rattle.qc_event.specs.History.{Past, kind_of}
use Rattle.qc_event.specs.Legal.{Legal}
use Rattle.qc_event.specs.Users.{is_marked, top_number}
use Rattle.qc_history.specs.Looking.{session_of}
use Rattle.qc_history.proofs.history.History.marked.Goals as goal

pub returns-in_default : goal.returns-in_default
returns-in_default c = λ setting legal.
    let told = c.kind.ensures setting c.self.invariant.1 (subst (Legal setting) (sym c.self.view_is) legal) in
    let known = sym c.in_default.is ∙ told ∙ ap (λ p. kind_of p c.args.of.now) c.self.view_is in
    ap (λ o. option_map_or (λ session. is_marked c.args.self.now session (top_number c.args.of.now)) (option_and_then session_of o) false) known

pub returns-in_default-session_of : goal.returns-in_default-session_of
returns-in_default-session_of c = λ setting legal.
    let told = c.kind.ensures setting c.self.invariant.1 (subst (Legal setting) (sym c.self.view_is) legal) in
    let known = sym c.in-Some.is ∙ told ∙ ap (λ p. kind_of p c.args.of.now) c.self.view_is in
    ap (λ o. option_map_or (λ session. is_marked c.args.self.now session (top_number c.args.of.now)) o false) (sym c.in_default-session_of.is ∙ c.session_of.ensures ∙ ap (option_and_then session_of) known)

pub returns : goal.returns
returns c = λ setting legal.
    let told = c.kind.ensures setting c.self.invariant.1 (subst (Legal setting) (sym c.self.view_is) legal) in
    let known = sym c.in-Some.is ∙ told ∙ ap (λ p. kind_of p c.args.of.now) c.self.view_is in
    subst (λ (p : Past). c.marked.result ≡ is_marked p c.in-Some-session_of.session (top_number c.args.of.now)) c.self.view_is (c.marked.ensures setting _ c.self.invariant.2 (subst (Legal setting) (sym c.self.view_is) legal))
    ∙ ap (λ o. option_map_or (λ session. is_marked c.args.self.now session (top_number c.args.of.now)) o false) (sym c.in-Some-session_of.is ∙ c.session_of.ensures ∙ ap (option_and_then session_of) known)
