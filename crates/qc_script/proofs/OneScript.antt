-- A script is not refused.
use Rattle.std.proofs.Common.{◌≡◌, ℕ, List, Option, Some, Ok, Err, refl, sym, ap, ◌∙◌, arith}
use Rattle.serde_json.specs.Data.{Data}
use Rattle.qc_script.specs.Plan.{ScriptPlan}
use Rattle.qc_script.specs.JsonText.{Read}
use Rattle.qc_script.specs.ScriptText.{script_of}
use Rattle.qc_script.specs.Reading.{IsRead, IsScript, ScriptIsRefused}
use Rattle.qc_script.specs.declared.bad_script.BadScript.{BadScript}
use Rattle.qc_script.specs.declared.bad_script.BadScript.TheVariants.{NotJson, Shape, Limit, Config, Unknown, TooLong, Twice, Memory}

pub one_value : (x y : Data) (o : Option Data) → o ≡ Some x → o ≡ Some y → x ≡ y
one_value x y o p q = cc

abbrev read_as : ScriptPlan → Read ScriptPlan
read_as s = Ok s

no_answer : (s : ScriptPlan) (e : BadScript) → read_as s ≡ Err e → ⊥
no_answer s e h = cc

-- two answers for the same bytes are one
same_answer : (bytes : List ℕ) (a b : Read ScriptPlan) → IsRead bytes a → IsRead bytes b → a ≡ b
same_answer bytes a b x y = sym x.reads ∙ ap script_of (one_value x.value y.value _ x.json.reads y.json.reads) ∙ y.reads

-- a script is refused for want of memory alone
pub script_not_refused : (bytes : List ℕ) (s : ScriptPlan) (e : BadScript) → IsScript bytes s → ScriptIsRefused bytes e → e ≡ Memory
script_not_refused bytes s Memory x y = refl
script_not_refused bytes s TooLong x y = let short = x.short in absurd (omega arith)
script_not_refused bytes s NotJson x y = absurd (y.none x.value x.json)
script_not_refused bytes s (Shape word) x y = absurd (no_answer s (Shape word) (same_answer bytes (Ok s) (Err (Shape word)) x y))
script_not_refused bytes s (Limit word n) x y = absurd (no_answer s (Limit word n) (same_answer bytes (Ok s) (Err (Limit word n)) x y))
script_not_refused bytes s (Config fault) x y = absurd (no_answer s (Config fault) (same_answer bytes (Ok s) (Err (Config fault)) x y))
script_not_refused bytes s (Unknown name) x y = absurd (no_answer s (Unknown name) (same_answer bytes (Ok s) (Err (Unknown name)) x y))
script_not_refused bytes s (Twice name) x y = absurd (no_answer s (Twice name) (same_answer bytes (Ok s) (Err (Twice name)) x y))
