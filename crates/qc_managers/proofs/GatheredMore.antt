-- What a collection has, after one more reply.
use Rattle.std.proofs.Common.{◌≡◌, ◌<◌, ◌≤◌, List, [], ◌∷◌, ◌++◌, refl, sym, ap, ◌∙◌, arith}
use Rattle.std.proofs.lemmas.Bool.{lt-ltb}
use Rattle.std.proofs.lemmas.Bool.Decides.{nat_tests}
use Rattle.std.proofs.lemmas.List.{append-nil}
use Rattle.std.proofs.lemmas.List.Elements.{filter_map-append}
use Rattle.std.proofs.lemmas.List.Sums.{fold-append}
use Rattle.std.specs.Prelude.{ℕ, if◌then◌else◌, Option, None, Some, fold}
use Rattle.std.specs.List.{cons_option}
use Rattle.qc_config.specs.Config.{Voting}
use Rattle.qc_config.specs.declared.tuple.Tuple.{Tuple}
use Rattle.qc_event.specs.Manager.{Replied, Newest, newer, Greatest, greater}
use Rattle.qc_managers.specs.declared.heard.Heard.{Heard}
use Rattle.qc_managers.specs.Told.{Told, reply_in, replies_in, newest_in}
use Rattle.qc_managers.specs.Heard.{heard}
use Rattle.qc_managers.specs.Gathered.{Gathered, gathered, greatest_of, raised}

-- a copy's reply
abbrev pub replied : ℕ → Tuple → Told
replied copy tuple = record { copy = copy; result = Replied tuple }

pub replies_more : (told : List Told) (copy : ℕ) (tuple : Tuple) → replies_in (told ++ replied copy tuple ∷ []) ≡ replies_in told ++ tuple ∷ []
replies_more told copy tuple = filter_map-append reply_in told (replied copy tuple ∷ [])

pub newest_more : (first : Voting) (told : List Told) (copy : ℕ) (tuple : Tuple) → newest_in first (told ++ replied copy tuple ∷ []) ≡ newer (newest_in first told) tuple
newest_more first told copy tuple =
    let start : Newest = record { generation = 0; config = first } in
    ap (λ ts. fold newer start ts) (replies_more told copy tuple) ∙ fold-append newer start (replies_in told) (tuple ∷ [])

greatest_of_more : (tuples : List Tuple) (tuple : Tuple) → greatest_of (tuples ++ tuple ∷ []) ≡ Some (raised (greatest_of tuples) tuple)
greatest_of_more [] tuple = refl
greatest_of_more (first ∷ tuples) tuple = ap (λ g. Some g) (fold-append greater _ tuples (tuple ∷ []))

pub greatest_more : (told : List Told) (copy : ℕ) (tuple : Tuple) → greatest_of (replies_in (told ++ replied copy tuple ∷ [])) ≡ Some (raised (greatest_of (replies_in told)) tuple)
greatest_more told copy tuple = ap greatest_of (replies_more told copy tuple) ∙ greatest_of_more (replies_in told) tuple

-- what is no reply leaves the replies
replies_same : (told : List Told) (t : Told) → reply_in t ≡ None → replies_in (told ++ t ∷ []) ≡ replies_in told
replies_same told t silent = filter_map-append reply_in told (t ∷ []) ∙ ap (λ o. replies_in told ++ cons_option o []) silent ∙ append-nil (replies_in told)

pub gathered_silent : (first : Voting) (told : List Told) (t : Told) (h : Heard) → reply_in t ≡ None → h ≡ heard (told ++ t ∷ []) → record (gathered first told) { heard = h } ≡ gathered first (told ++ t ∷ [])
gathered_silent first told t h silent is =
    let collected : Heard → List Tuple → Gathered = λ now tuples. record { heard = now; newest = fold newer (record { generation = 0; config = first }) tuples; greatest = greatest_of tuples } in
    ap (λ now. collected now (replies_in told)) is ∙ ap (λ tuples. collected (heard (told ++ t ∷ [])) tuples) (sym (replies_same told t silent))

-- a collection with one more reply
abbrev pub with_reply : Heard → Tuple → Gathered → Gathered
with_reply h tuple before = record { heard = h; newest = newer before.newest tuple; greatest = Some (raised before.greatest tuple) }

pub gathered_reply : (first : Voting) (told : List Told) (copy : ℕ) (tuple : Tuple) (h : Heard) → h ≡ heard (told ++ replied copy tuple ∷ []) → with_reply h tuple (gathered first told) ≡ gathered first (told ++ replied copy tuple ∷ [])
gathered_reply first told copy tuple h is =
    let more = told ++ replied copy tuple ∷ [] in
    let collected : Heard → Newest → Option Greatest → Gathered = λ now newest greatest. record { heard = now; newest = newest; greatest = greatest } in
    ap (λ now. collected now (newer (newest_in first told) tuple) (Some (raised (greatest_of (replies_in told)) tuple))) is
    ∙ ap (λ newest. collected (heard more) newest (Some (raised (greatest_of (replies_in told)) tuple))) (sym (newest_more first told copy tuple))
    ∙ ap (λ greatest. collected (heard more) (newest_in first more) greatest) (sym (greatest_more told copy tuple))

pub newer_taken : (best : Newest) (t : Tuple) → best.generation < t.generation → newer best t ≡ record { generation = t.generation; config = t.config }
newer_taken best t lt = ap (λ b. if b then record { generation = t.generation; config = t.config } else best) (lt-ltb best.generation t.generation lt)

pub newer_kept : (best : Newest) (t : Tuple) → t.generation ≤ best.generation → newer best t ≡ best
newer_kept best t le = grind (arith, nat_tests)
