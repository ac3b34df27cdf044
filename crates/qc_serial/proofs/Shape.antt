-- Events that keep to the machine's stack and read the values that are there are accepted.
use Rattle.std.proofs.Common.{◌≡◌, ℕ, Bool, ◌&&◌, IsTrue, List, [], ◌∷◌, ◌++◌, refl, ap, ◌∙◌}
use Rattle.qc_config.specs.Val.{Datum}
use Rattle.qc_serial.specs.declared.event.SerialEvent.{SerialEvent}
use Rattle.qc_serial.specs.declared.event.SerialEvent.TheVariants.{Read, Write}
use Rattle.qc_serial.specs.Machine.{State, next, run, Accepts}
use Rattle.qc_serial.specs.Shape.{Shaped, Reads, after}

both : (a b : Bool) → IsTrue a → IsTrue b → IsTrue (a && b)
both a b p q = ap (λ x. x && b) p ∙ q

pub accepts : (m : State) (es : List SerialEvent) → Shaped m es → Reads m.values es → Accepts m es
accepts m [] shaped reads = tt
accepts m (Read n rec value ∷ es) shaped reads = (both _ _ shaped.0 reads.0, accepts (next m (Read n rec value)) es shaped.1 reads.1)
accepts m (Write n rec value ∷ es) shaped reads = (both _ _ shaped.0 reads.0, accepts (next m (Write n rec value)) es shaped.1 reads.1)
accepts m (e ∷ es) shaped reads = (shaped.0, accepts (next m e) es shaped.1 reads)

pub values_after : (m : State) (es : List SerialEvent) → (run m es).values ≡ after m.values es
values_after m [] = refl
values_after m (Write n rec value ∷ es) = values_after (next m (Write n rec value)) es
values_after m (e ∷ es) = values_after (next m e) es

pub shaped-append : (m : State) (xs ys : List SerialEvent) → Shaped m xs → Shaped (run m xs) ys → Shaped m (xs ++ ys)
shaped-append m [] ys front rest = rest
shaped-append m (x ∷ xs) ys front rest = (front.0, shaped-append (next m x) xs ys front.1 rest)

pub after-append : (values : List Datum) (xs ys : List SerialEvent) → after values (xs ++ ys) ≡ after (after values xs) ys
after-append values [] ys = refl
after-append values (Write n rec value ∷ xs) ys = after-append _ xs ys
after-append values (x ∷ xs) ys = after-append values xs ys

pub reads-append : (values : List Datum) (xs ys : List SerialEvent) → Reads values xs → Reads (after values xs) ys → Reads values (xs ++ ys)
reads-append values [] ys front rest = rest
reads-append values (Read n rec value ∷ xs) ys front rest = (front.0, reads-append values xs ys front.1 rest)
reads-append values (Write n rec value ∷ xs) ys front rest = (front.0, reads-append _ xs ys front.1 rest)
reads-append values (x ∷ xs) ys front rest = reads-append values xs ys front rest
