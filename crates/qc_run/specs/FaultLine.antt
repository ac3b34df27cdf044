-- The line that tells why a run gave no report, and the number with which the process ends.
use Rattle.std.specs.Prelude.{ℕ, [], ◌++◌, codes}
use Rattle.std.specs.Fmt.{decimal}
use Rattle.qc_codec.specs.declared.image.ImageFault.{ImageFault}
use Rattle.qc_codec.specs.declared.image.ImageFault.TheVariants as image
use Rattle.qc_config.specs.declared.config.BadConfig.{BadConfig}
use Rattle.qc_config.specs.declared.config.BadConfig.TheVariants as config
use Rattle.qc_script.specs.declared.bad_script.BadScript.{BadScript}
use Rattle.qc_script.specs.declared.bad_script.BadScript.TheVariants as bad
use Rattle.qc_script.specs.declared.bad_script.Member.{Member}
use Rattle.qc_script.specs.declared.bad_script.Member.TheVariants as member
use Rattle.qc_run.specs.declared.status.Status.{Status}
use Rattle.qc_run.specs.declared.status.Status.TheVariants as status
use Rattle.qc_report.specs.Report.{Text}

-- the number with which the process ends
abbrev pub exit_code : Status → ℕ
exit_code status.Done = 0
exit_code status.Usage = 2
exit_code (status.Script why) = 3
exit_code status.ReadFault = 4
exit_code status.WriteFault = 5
exit_code (status.DiskFault disk) = 6
exit_code (status.Image bad) = 7
exit_code status.InDoubt = 8
exit_code status.Memory = 9
exit_code status.Trail = 10
exit_code (status.Illegal entry) = 11
exit_code (status.Unserial event) = 12
exit_code status.Room = 14

-- the word for a part of a script
abbrev pub member_word : Member → Text
member_word member.Script = codes "script"
member_word member.Copies = codes "copies"
member_word member.Patience = codes "patience"
member_word member.Records = codes "records"
member_word member.RecordRow = codes "record"
member_word member.Name = codes "name"
member_word member.Start = codes "start"
member_word member.Config = codes "config"
member_word member.Votes = codes "votes"
member_word member.Read = codes "read"
member_word member.Write = codes "write"
member_word member.Sessions = codes "sessions"
member_word member.Session = codes "session"
member_word member.Net = codes "net"
member_word member.Fates = codes "fates"
member_word member.Hold = codes "hold"
member_word member.Tops = codes "tops"
member_word member.Body = codes "body"
member_word member.Tries = codes "tries"
member_word member.Must = codes "must"
member_word member.Steps = codes "steps"
member_word member.Step = codes "step"
member_word member.Value = codes "value"
member_word member.Levels = codes "levels"
member_word member.Copy = codes "copy"
member_word member.Branches = codes "branches"

-- the number of a refusal of votes and thresholds
abbrev pub config_code : BadConfig → ℕ
config_code config.Empty = 1
config_code config.Votes = 2
config_code config.Read = 3
config_code config.Write = 4
config_code config.NoOverlap = 5

-- why bytes are no script
abbrev pub script_fault : BadScript → Text
script_fault bad.NotJson = codes "not json"
script_fault (bad.Shape part) = codes "shape " ++ member_word part
script_fault (bad.Limit part n) = codes "limit " ++ member_word part ++ codes " " ++ decimal n
script_fault (bad.Config why) = codes "config " ++ decimal (config_code why)
script_fault (bad.Unknown label) = codes "unknown " ++ label
script_fault bad.TooLong = codes "too long"
script_fault (bad.Twice label) = codes "twice " ++ label
script_fault bad.Memory = codes "memory"

-- what is wrong with the image of a disk
abbrev pub image_fault : ImageFault → Text
image_fault (image.Broken place) = codes "broken at " ++ decimal place
image_fault (image.Grammar index) = codes "record " ++ decimal index ++ codes " grammar"
image_fault (image.Full place) = codes "full at " ++ decimal place
image_fault (image.Table kept asked) = codes "table"
image_fault (image.Epoch epoch) = codes "epoch " ++ decimal epoch

-- the line that tells a fault; nothing where there is none, or where nothing more can be written
abbrev pub fault_line : Status → Text
fault_line status.Done = []
fault_line status.Usage = codes "usage: qc run [--dir PATH] [--serial] [--trail] | qc gen N | qc audit\n"
fault_line (status.Script why) = codes "qc: script: " ++ script_fault why ++ codes "\n"
fault_line status.ReadFault = codes "qc: read fault\n"
fault_line status.WriteFault = []
fault_line (status.DiskFault disk) = codes "qc: disk " ++ decimal disk ++ codes " fault\n"
fault_line (status.Image bad) = codes "qc: image: disk " ++ decimal bad.disk ++ codes " " ++ image_fault bad.fault ++ codes "\n"
fault_line status.InDoubt = []
fault_line status.Memory = []
fault_line status.Trail = codes "qc: trail: malformed\n"
fault_line (status.Illegal entry) = []
fault_line (status.Unserial event) = []
fault_line status.Room = codes "qc: room\n"
