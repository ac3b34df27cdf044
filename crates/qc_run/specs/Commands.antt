-- What a command asks for, and what was chosen behind `run`.
use Rattle.std.specs.Prelude.{option_map}
use Rattle.qc_run.specs.Words.{Asked, Choice, Chosen}
use Rattle.qc_run.specs.declared.words.Command.{Command}
use Rattle.qc_run.specs.declared.words.Command.TheVariants as command
use Rattle.qc_run.specs.declared.words.Options.{Options}
use Rattle.qc_run.specs.declared.words.Choice.{Choice as Made}
use Rattle.qc_run.specs.declared.words.Choice.TheVariants as made

abbrev pub asked_by : Command → Asked
asked_by (command.Run place mode form) = Asked.read_at place.now mode form
asked_by (command.Gen number) = Asked.made_of number
asked_by command.Audit = Asked.audit

abbrev pub choice_by : Made → Choice
choice_by made.Serial = Choice.in_order
choice_by made.Trail = Choice.saved
choice_by (made.Dir place) = Choice.at place.now

abbrev pub chosen_in : Options → Chosen
chosen_in options = record { serial = options.serial; trail = options.trail; place = option_map (λ place. place.now) options.place }
