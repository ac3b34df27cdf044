-- What was taken of a source's bytes tells what all of them are.
use Rattle.std.proofs.Common.{◌≡◌, ℕ, ◌+◌, ◌<◌, ◌≤◌, ◌^◌, List, [], length, take, refl, sym, ap, subst, ◌∙◌, inl, inr, arith}
use Rattle.std.specs.Prelude.{◌≢◌, Option, None, Some, IfSome, Ok, min}
use Rattle.std.proofs.lemmas.List.{length-take, take_all}
use Rattle.qc_script.specs.declared.bad_script.BadScript.{BadScript}
use Rattle.qc_script.specs.declared.bad_script.BadScript.TheVariants.{NotJson, Shape, Limit, Config, Unknown, TooLong, Twice, Memory}
use Rattle.qc_script.specs.Plan.{ScriptPlan}
use Rattle.qc_codec.specs.declared.image.BadImage.{BadImage}
use Rattle.qc_run.specs.declared.status.Status.{Status}
use Rattle.qc_run.specs.declared.status.Status.TheVariants as status
use Rattle.qc_io.specs.Io.{Drops, IsAtEnd, SourceView}
use Rattle.qc_audit.specs.Verdicts.{Judges}
use Rattle.qc_audit.specs.declared.verdict.Verdict.{Verdict}
use Rattle.qc_run.specs.Audit.{Finds, IsMalformed, IsNoTrail}
use Rattle.qc_run.specs.Left.{IsNoScript, IsUnread}
use Rattle.qc_script.specs.Reading.{IsProper, IsScript, ScriptIsRefused}
use Rattle.qc_script.proofs.ProperMade.{made_proper}
use Rattle.qc_script.proofs.ProperScript.{proper_script}
use Rattle.qc_run.specs.Run.{ReadsScript, RunsScript, AsksFor, HadScript, IsOfAudit, IsScriptFor, IsScriptOf, IsScriptFault, IsNoRun, IsRun, IsSessionRun}
use Rattle.qc_run.specs.Words.{Asked, IsAudit, IsCommand, IsReading}
use Rattle.qc_run.proofs.OneCommand.{not_both, not_made, not_run, one_number}
use Rattle.qc_script.specs.MadePlan.{made_plan}
use Rattle.qc_script.specs.JsonText.{Read}
use Rattle.qc_script.specs.ScriptText.{script_of}
use Rattle.qc_script.proofs.OneScript.{one_value, script_not_refused}

-- one byte more than a script may have
abbrev pub most : ℕ
most = 1048577

-- where no more bytes were taken than a limit, they are all
all_within : (limit : ℕ) (left bytes : List ℕ) → bytes ≡ take (limit + 1) left → length bytes ≤ limit → left ≡ bytes
all_within limit left bytes is short =
    let l : length bytes ≡ min (limit + 1) (length left) = ap length is ∙ length-take (limit + 1) left in
    let few : length left ≤ limit + 1 = omega arith in
    sym (is ∙ take_all (limit + 1) left few)

-- where no more than a script's bytes were taken, they are all
all_taken : (left bytes : List ℕ) → bytes ≡ take most left → length bytes ≤ 2 ^ 20 → left ≡ bytes
all_taken left bytes is short = all_within 1048576 left bytes is short

no_longer : (left bytes : List ℕ) → bytes ≡ take most left → length bytes ≤ length left
no_longer left bytes is = let l : length bytes ≡ min most (length left) = ap length is ∙ length-take most left in omega arith

-- a source whose bytes are a script was read to its end
pub reads_script : (left now : Option (List ℕ)) (bytes : List ℕ) (s : ScriptPlan) → IfSome left (λ l. bytes ≡ take most l) → Drops left now most → IfSome left (λ l. length l ≤ 2 ^ 20 → now ≡ Some []) → IsScript bytes s → ReadsScript left now s
reads_script None now bytes s taken drops ended is = record {
  bytes = bytes;
  held = tt;
  ended = subst IsAtEnd (sym drops) tt;
  is_script = is;
}
reads_script (Some l) now bytes s taken drops ended is =
    let all : l ≡ bytes = all_taken l bytes taken is.short in
    let short : length l ≤ 2 ^ 20 = subst (λ x. length x ≤ 2 ^ 20) (sym all) is.short in
    record {
      bytes = bytes;
      held = all;
      ended = subst IsAtEnd (sym (ended short)) refl;
      is_script = is;
    }

refused_before : (left bytes : List ℕ) (e : BadScript) → bytes ≡ take most left → ScriptIsRefused bytes e → ScriptIsRefused left e
refused_before left bytes TooLong taken no_script = let longer = no_longer left bytes taken in omega arith
refused_before left bytes NotJson taken no_script = subst (λ x. ScriptIsRefused x NotJson) (sym (all_taken left bytes taken no_script.short)) no_script
refused_before left bytes Memory taken no_script = tt
refused_before left bytes (Shape word) taken no_script = subst (λ x. ScriptIsRefused x (Shape word)) (sym (all_taken left bytes taken no_script.short)) no_script
refused_before left bytes (Limit word n) taken no_script = subst (λ x. ScriptIsRefused x (Limit word n)) (sym (all_taken left bytes taken no_script.short)) no_script
refused_before left bytes (Config why) taken no_script = subst (λ x. ScriptIsRefused x (Config why)) (sym (all_taken left bytes taken no_script.short)) no_script
refused_before left bytes (Unknown name) taken no_script = subst (λ x. ScriptIsRefused x (Unknown name)) (sym (all_taken left bytes taken no_script.short)) no_script
refused_before left bytes (Twice name) taken no_script = subst (λ x. ScriptIsRefused x (Twice name)) (sym (all_taken left bytes taken no_script.short)) no_script

-- what is refused of the bytes taken is refused of all
pub fault_of_all : (left : Option (List ℕ)) (bytes : List ℕ) (e : BadScript) → IfSome left (λ l. bytes ≡ take most l) → ScriptIsRefused bytes e → IfSome left (λ l. ScriptIsRefused l e)
fault_of_all None bytes e taken refused = tt
fault_of_all (Some l) bytes e taken refused = refused_before l bytes e taken refused

-- why bytes that were taken are no script is why none was read
pub unread : (before now : SourceView) (bytes : List ℕ) (answer : Status) → IfSome before.left (λ l. bytes ≡ take most l) → IsNoScript bytes answer → IsUnread before now answer
unread before now bytes (status.Script e) taken none = (fault_of_all before.left bytes e taken none.0, none.1)
unread before now bytes status.Memory taken none = tt
unread before now bytes status.Trail taken none = absurd none
unread before now bytes (status.Illegal at) taken none = absurd none
unread before now bytes (status.Unserial at) taken none = absurd none
unread before now bytes status.Done taken none = absurd none
unread before now bytes status.InDoubt taken none = absurd none
unread before now bytes status.Usage taken none = absurd none
unread before now bytes status.ReadFault taken none = absurd none
unread before now bytes status.WriteFault taken none = absurd none
unread before now bytes (status.DiskFault which) taken none = absurd none
unread before now bytes (status.Image bad) taken none = absurd none
unread before now bytes status.Room taken none = absurd none

no_run : (l : List ℕ) (now : Option (List ℕ)) (s : ScriptPlan) → ((s : ScriptPlan) → IsScript l s → ⊥) → ReadsScript (Some l) now s → ⊥
no_run l now s none reads = none s (subst (λ x. IsScript x s) (sym reads.held) reads.is_script)

-- where the bytes are no script, none was run
pub none_was_run : (left now : Option (List ℕ)) (answer : Status) → (answer ≡ status.Usage → ⊥) → (IsOfAudit answer → ⊥) → (HadScript answer → (s : ScriptPlan) × ReadsScript left now s) → IfSome left (λ bytes. ((s : ScriptPlan) → IsScript bytes s → ⊥) → IsNoRun answer)
none_was_run None now answer command audit started = tt
none_was_run (Some l) now status.Usage command audit started = λ none. command refl
none_was_run (Some l) now (status.Script e) command audit started = λ none. tt
none_was_run (Some l) now status.ReadFault command audit started = λ none. tt
none_was_run (Some l) now status.Memory command audit started = λ none. tt
none_was_run (Some l) now status.Trail command audit started = absurd (audit tt)
none_was_run (Some l) now (status.Illegal at) command audit started = absurd (audit tt)
none_was_run (Some l) now (status.Unserial at) command audit started = absurd (audit tt)
none_was_run (Some l) now status.Done command audit started = λ none. no_run l now (started tt).0 none (started tt).1
none_was_run (Some l) now status.InDoubt command audit started = λ none. no_run l now (started tt).0 none (started tt).1
none_was_run (Some l) now status.WriteFault command audit started = λ none. no_run l now (started tt).0 none (started tt).1
none_was_run (Some l) now (status.DiskFault which) command audit started = λ none. no_run l now (started tt).0 none (started tt).1
none_was_run (Some l) now (status.Image bad) command audit started = λ none. no_run l now (started tt).0 none (started tt).1
none_was_run (Some l) now status.Room command audit started = λ none. no_run l now (started tt).0 none (started tt).1

-- a command that reads a script read it
pub was_read : (words : List (List ℕ)) (before now : Option (List ℕ)) (s : ScriptPlan) (asked : Asked) → IsReading words → IsCommand words asked → IsScriptOf before now s asked → ReadsScript before now s
was_read words before now s (Asked.read_at place mode form) reading is script = script
was_read words before now s (Asked.made_of n) reading is script = absurd (not_both words reading.0 n reading.1 is)
was_read words before now s Asked.audit reading is script = absurd script

-- a script that was run is proper
pub proper_one : (before now : Option (List ℕ)) (s : ScriptPlan) (asked : Asked) → IsScriptOf before now s asked → IsProper s
proper_one before now s (Asked.read_at place mode form) script = proper_script script.bytes s script.is_script
proper_one before now s (Asked.made_of n) made = subst IsProper (sym made) (made_proper n)
proper_one before now s Asked.audit script = absurd script

-- a script that is to be read is not refused
asked_not_refused : (words : List (List ℕ)) (left : Option (List ℕ)) (s : ScriptPlan) (e : BadScript) → AsksFor words left s → IsReading words → IfSome left (λ bytes. ScriptIsRefused bytes e) → e ≢ Memory → ⊥
asked_not_refused words left s e asks reading refused other = by_asked asks.asked asks.is_command asks.is_script
  where
    by_asked : (asked : Asked) → IsCommand words asked → IsScriptFor left s asked → ⊥
    by_asked (Asked.read_at place mode form) is script = other (script_not_refused script.0 s e script.2 (subst (λ (o : Option (List ℕ)). IfSome o (λ bytes. ScriptIsRefused bytes e)) script.1 refused))
    by_asked (Asked.made_of n) is script = not_both words reading.0 n reading.1 is
    by_asked Asked.audit is script = script

-- words that ask for a script have no trail audited
pub no_audit : (words : List (List ℕ)) (left : Option (List ℕ)) (s : ScriptPlan) → AsksFor words left s → IsAudit words → ⊥
no_audit words left s asks audit = by_asked asks.asked asks.is_command asks.is_script
  where
    by_asked : (asked : Asked) → IsCommand words asked → IsScriptFor left s asked → ⊥
    by_asked (Asked.read_at place mode form) is script = not_run words is.0 audit is.1
    by_asked (Asked.made_of n) is script = not_made words n audit is
    by_asked Asked.audit is script = script

-- where there is a script and no stream failed, it was run, or no store was mounted for it
pub script_was_run : (words : List (List ℕ)) (left : Option (List ℕ)) (s : ScriptPlan) (answer : Status) (R W : Type 0) → AsksFor words left s → IsScriptFault words left answer → (IsOfAudit answer → ⊥) → (answer ≡ status.Usage → ⊥) → (answer ≡ status.ReadFault → R) → (answer ≡ status.WriteFault → W) → (R → ⊥) → (W → ⊥) → IsRun answer
script_was_run words left s status.Done R W is fault audit command read write r w = tt
script_was_run words left s status.InDoubt R W is fault audit command read write r w = tt
script_was_run words left s (status.DiskFault which) R W is fault audit command read write r w = tt
script_was_run words left s (status.Image bad) R W is fault audit command read write r w = tt
script_was_run words left s status.Memory R W is fault audit command read write r w = tt
script_was_run words left s status.Trail R W is fault audit command read write r w = absurd (audit tt)
script_was_run words left s (status.Illegal at) R W is fault audit command read write r w = absurd (audit tt)
script_was_run words left s (status.Unserial at) R W is fault audit command read write r w = absurd (audit tt)
script_was_run words left s status.Room R W is fault audit command read write r w = tt
script_was_run words left s status.Usage R W is fault audit command read write r w = command refl
script_was_run words left s status.ReadFault R W is fault audit command read write r w = r (read refl)
script_was_run words left s status.WriteFault R W is fault audit command read write r w = w (write refl)
script_was_run words left s (status.Script e) R W is fault audit command read write r w = asked_not_refused words left s e is fault.0 fault.1 fault.2

-- where no disk and no image was refused, its session was run
pub session_was_run : (answer : Status) → IsRun answer → ((which : ℕ) → answer ≡ status.DiskFault which → ⊥) → ((bad : BadImage) → answer ≡ status.Image bad → ⊥) → IsSessionRun answer
session_was_run status.Done ran disk image = tt
session_was_run status.InDoubt ran disk image = tt
session_was_run status.Memory ran disk image = tt
session_was_run status.Trail ran disk image = ran
session_was_run (status.Illegal at) ran disk image = ran
session_was_run (status.Unserial at) ran disk image = ran
session_was_run status.Room ran disk image = tt
session_was_run (status.DiskFault which) ran disk image = disk which refl
session_was_run (status.Image bad) ran disk image = image bad refl
session_was_run status.Usage ran disk image = ran
session_was_run status.ReadFault ran disk image = ran
session_was_run status.WriteFault ran disk image = ran
session_was_run (status.Script e) ran disk image = ran

abbrev read_as : ScriptPlan → Read ScriptPlan
read_as s = Ok s

one_plan : (s other : ScriptPlan) → read_as s ≡ read_as other → s ≡ other
one_plan s other same = cc

-- bytes are one script at most
one_script : (bytes : List ℕ) (s other : ScriptPlan) → IsScript bytes s → IsScript bytes other → s ≡ other
one_script bytes s other x y = one_plan s other (sym x.reads ∙ ap script_of (one_value x.value y.value _ x.json.reads y.json.reads) ∙ y.reads)

-- the script that a source held is the one that its bytes are
same_read : (left now : Option (List ℕ)) (bytes : List ℕ) (s other : ScriptPlan) → left ≡ Some bytes → IsScript bytes s → ReadsScript left now other → s ≡ other
same_read None now bytes s other held is reads = absurd cc
same_read (Some l) now bytes s other held is reads =
    let all : l ≡ bytes = cc in
    one_script bytes s other is (subst (λ x. IsScript x other) (sym reads.held ∙ all) reads.is_script)

-- the script that was run is the one that was asked for
pub same_script : (words : List (List ℕ)) (left now : Option (List ℕ)) (s other : ScriptPlan) → AsksFor words left s → RunsScript words left now other → s ≡ other
same_script words left now s other asks runs = by_asked asks.asked runs.asked asks.is_command runs.is_command asks.is_script runs.is_script
  where
    by_asked : (a b : Asked) → IsCommand words a → IsCommand words b → IsScriptFor left s a → IsScriptOf left now other b → s ≡ other
    by_asked (Asked.read_at place mode form) (Asked.read_at there kept text) x y held read = same_read left now held.0 s other held.1 held.2 read
    by_asked (Asked.read_at place mode form) (Asked.made_of m) x y held made = absurd (not_both words x.0 m x.1 y)
    by_asked (Asked.made_of n) (Asked.read_at there kept text) x y made read = absurd (not_both words y.0 n y.1 x)
    by_asked (Asked.made_of n) (Asked.made_of m) x y made also =
        let same : n ≡ m = one_number words n m x y in
        made ∙ ap made_plan same ∙ sym also
    by_asked Asked.audit b x y none also = absurd none
    by_asked a Asked.audit x y held none = absurd none

-- TRAILS

-- a source on whose bytes this is the verdict was read to its end
pub found_in : (left now : Option (List ℕ)) (bytes : List ℕ) (found : Verdict) → IfSome left (λ l. bytes ≡ take 16777217 l) → Drops left now 16777217 → IfSome left (λ l. length l ≤ 2 ^ 24 → now ≡ Some []) → length bytes ≤ 2 ^ 24 → Judges bytes found → Finds left now found
found_in None now bytes found taken drops ended short is = record {
  bytes = bytes;
  held = tt;
  ended = subst IsAtEnd (sym drops) tt;
  is_verdict = is;
}
found_in (Some l) now bytes found taken drops ended short is =
    let all : l ≡ bytes = all_within 16777216 l bytes taken short in
    let few : length l ≤ 2 ^ 24 = subst (λ x. length x ≤ 2 ^ 24) (sym all) short in
    record {
      bytes = bytes;
      held = all;
      ended = subst IsAtEnd (sym (ended few)) refl;
      is_verdict = is;
    }

-- bytes of which more were taken than a saved trail has are too many for one
pub too_many : (left : Option (List ℕ)) (bytes : List ℕ) → IfSome left (λ l. bytes ≡ take 16777217 l) → 2 ^ 24 < length bytes → IfSome left IsNoTrail
too_many None bytes taken long = tt
too_many (Some l) bytes taken long = let n : length bytes ≡ min 16777217 (length l) = ap length taken ∙ length-take 16777217 l in inl (omega arith)

-- what was taken of bytes that are no saved trail is all of them
pub malformed : (left : Option (List ℕ)) (bytes : List ℕ) → IfSome left (λ l. bytes ≡ take 16777217 l) → length bytes ≤ 2 ^ 24 → IsMalformed bytes → IfSome left IsNoTrail
malformed None bytes taken short none = tt
malformed (Some l) bytes taken short none = inr (subst IsMalformed (sym (all_within 16777216 l bytes taken short)) none)
