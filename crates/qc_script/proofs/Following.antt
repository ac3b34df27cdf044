-- What holds of what is read, part after part.
use Rattle.std.proofs.Common.{◌≡◌, Bool, true, false, Option, Some, None, Ok, Err, refl}
use Rattle.std.specs.Prelude.{IfOk, IfSome, ok_or}
use Rattle.qc_script.specs.declared.bad_script.BadScript.{BadScript}
use Rattle.qc_script.specs.JsonText.{Read, followed, ◌>>=◌, must}

-- what holds of the last of several parts, where each of them is read
pub then_ok : {A B : Type 0} (P : B → Type 0) (r : Read A) (f : A → Read B) → ((x : A) → r ≡ Ok x → IfOk (f x) P) → IfOk (r >>= f) P
unfolding followed
then_ok P (Ok x) f h = h x refl
then_ok P (Err e) f h = tt

pub ok_each : {A : Type 0} {P : A → Type 0} (r : Read A) → ((x : A) → r ≡ Ok x → P x) → IfOk r P
ok_each (Ok x) h = h x refl
ok_each (Err e) h = tt

pub must_true : (b : Bool) (e : BadScript) (t : Unit {0}) → must b e ≡ Ok t → b ≡ true
must_true true e t h = refl
must_true false e t h = absurd cc

pub ok_or_some : {A : Type 0} (P : A → Type 0) (o : Option A) (e : BadScript) → IfSome o P → IfOk (ok_or o e) P
ok_or_some P None e h = tt
ok_or_some P (Some x) e h = h
