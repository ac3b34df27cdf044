use Rattle.std.proofs.Common.{◌≡◌, []}
use Rattle.std.proofs.lemmas.List.Elements.{All-map}
use Rattle.qc_mail.specs.Mails.{got_at, made_at}
use Rattle.qc_mail.proofs.Held.{all_again}
use Rattle.qc_mail.proofs.naming.Unnamed.name.Goals as goal

pub seat_all-requires-clause-next : goal.seat_all-requires-clause-next
seat_all-requires-clause-next g c = All-map (λ m. m ≡ 0) (λ s. made_at s.outlet.pass) c.in_ok-trays.stubs.items c.in_ok-trays.ensures.made

pub returns-clause-taken : goal.returns-clause-taken
returns-clause-taken g c =
    all_again (λ s. got_at s.outlet.pass) (λ got. got ≡ []) c.in_ok-trays.stubs.items c.seat_all.new.stubs.items c.in_ok-posts.ensures.got c.in_ok-trays.ensures.none
