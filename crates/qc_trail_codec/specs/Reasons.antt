-- Why no answer came, and who replied in a phase.
use Rattle.std.specs.Prelude.{ℕ, zero, suc, ◌≡◌, ◌==◌, ◌+◌, ◌*◌, ◌/◌, ◌%◌, Bool, true, false, if◌then◌else◌, List, [], ◌∷◌, length, Option, None, Some}
use Rattle.qc_event.specs.declared.event.Why.{Why}
use Rattle.qc_event.specs.declared.event.Why.TheVariants.{Lost, Late, Down, Full, Strange}
use Rattle.qc_event.specs.declared.event.Phase.{Phase}
use Rattle.qc_event.specs.declared.event.Phase.TheVariants.{Collect, Values, Configs}
use Rattle.qc_event.specs.declared.event.Lack.{Lack}
use Rattle.qc_codec.specs.Form.{Form, Any, pair, as_another, only, times, just, variant, under, nothing, choose}
use Rattle.qc_codec.specs.Fields.{half}

-- REASONS

abbrev pub why_tag : Why → ℕ
why_tag Lost = 1
why_tag Late = 2
why_tag Down = 3
why_tag Full = 4
why_tag Strange = 5

-- each reason under its tag
abbrev pub whys : ℕ → Form Why
whys = under 1 (just Lost) (under 2 (just Late) (under 3 (just Down) (under 4 (just Full) (under 5 (just Strange) nothing))))

-- why no answer came
unfoldable pub why : Form Why
why = choose why_tag whys

-- whether a copy or the ledger may give a reason
abbrev pub is_inability : Why → Bool
is_inability Lost = false
is_inability Late = false
is_inability _ = true

-- why a copy or the ledger could not serve
unfoldable pub inability : Form Why
inability = only is_inability why

abbrev pub missing_tag : Option Why → ℕ
missing_tag None = 0
missing_tag (Some why) = why_tag why

-- a value of a tag's form
abbrev pub some_of : {A : Type 0} → (ℕ → Form A) → ℕ → Form (Option A)
some_of {A} forms tag = variant (λ (a : A). Some a) (λ (o : Option A). o) (forms tag)

-- why a copy is missing, where it is
unfoldable pub reason : Form (Option Why)
reason = choose missing_tag (under 0 (just None) (some_of whys))

-- SETS OF COPIES

-- so many marks, which the bits of a number are, the lowest first
abbrev pub marks_of : ℕ → ℕ → List Bool
marks_of zero n = []
marks_of (suc k) n = (n % 2 == 1) ∷ marks_of k (n / 2)

-- the number whose bits the marks are
abbrev pub number_of : List Bool → ℕ
number_of [] = 0
number_of (mark ∷ marks) = (if mark then 1 else 0) + 2 * number_of marks

abbrev pub IsWhole : List Bool → Type 0
IsWhole marks = length marks ≡ 16

-- a set of copies, as a number of which bit c is for copy c
unfoldable pub copies : Form (List Bool)
copies = as_another (marks_of 16) number_of IsWhole half

-- LACKS

abbrev pub phase_tag : Phase → ℕ
phase_tag Collect = 0
phase_tag Values = 1
phase_tag Configs = 2

unfoldable pub phase : Form Phase
phase = choose phase_tag (under 0 (just Collect) (under 1 (just Values) (under 2 (just Configs) nothing)))

-- the phase, who replied in it, and why others are missing, for each of sixteen copies
unfoldable pub lack : Form Lack
lack = as_another (λ p. record { phase = p.0; replied = p.1.0; missing = p.1.1 }) (λ (l : Lack). (l.phase, (l.replied, l.missing))) Any
    (pair phase (λ phase. pair copies (λ replied. times 16 reason)))
