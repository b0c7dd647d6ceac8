-- The status of an answer, and its line on error output, or its lines.
use Rattle.std.specs.Prelude.{ℕ, ◌+◌, ◌/◌, ◌%◌, ◌^◌, ◌++◌, List, [], ◌∷◌, Option, Some, None, codes, decimal, if◌then◌else◌, nat_lt}
use Rattle.std.specs.Fmt.{signed_decimal}
use Rattle.std.specs.Int.{cast_unsigned, w32}
use Rattle.run_definition.specs.declared.fault.Fault.{Fault}
use Rattle.run_definition.specs.declared.outcome.Outcome.{Outcome}
use Rattle.run_definition.specs.declared.outcome.Outcome.TheVariants as outcome
use Rattle.elf_definition.specs.declared.elf_fault.ElfFault.{ElfFault}
use Rattle.class_definition.specs.declared.frame_fault.FrameFault.{FrameFault}
use Rattle.elf_definition.specs.declared.image_fault.ImageFault.{ImageFault}
use Rattle.class_definition.specs.declared.link_fault.LinkFault.{LinkFault}
use Rattle.mips_definition.specs.declared.asm_fault.AsmFault.{AsmFault}
use Rattle.elf_definition.specs.declared.obj_fault.ObjFault.{ObjFault}
use Rattle.class_definition.specs.declared.verify_fault.VerifyFault.{VerifyFault}
use Rattle.command_deeds.specs.declared.status.TheConstants as status
use Rattle.command_deeds.specs.declared.done.Done.{Done}
use Rattle.command_deeds.specs.declared.done.Done.TheVariants.{Good, Exited, Faulted, Usage, NoInput, ElfRefused, ImageRefused, ArgsTooLong}
use Rattle.command_deeds.specs.declared.done.Done.TheVariants.{FilesTooLarge, AsmRefused, ObjRefused, ClassRefused, LinkRefused, VerifyRefused, FrameRefused, FramesTooLarge, Piped, Trapped}
use Rattle.command_deeds.specs.declared.done.Done.TheVariants.{Spent, ReadFault, WriteFault, ShelfFault, NoMemory}

-- ---- the stages of a pipeline

-- how they ended: what stands in front of the first None
abbrev pub stages_of : List (Option Outcome) → List Outcome
stages_of [] = []
stages_of (None ∷ more) = []
stages_of (Some ended ∷ more) = ended ∷ stages_of more

-- the status of a stage is that of a run that ended so; no stage waits
abbrev pub stage_status : Outcome → ℕ
stage_status (outcome.Exited status) = cast_unsigned w32 status % 256
stage_status (outcome.Faulted f) = status.FAULTED
stage_status (outcome.Trapped k) = status.TRAPPED
stage_status outcome.Waiting = status.SPENT
stage_status outcome.Going = status.SPENT

-- that of the last one, or this where there is none
abbrev pub last_status : ℕ → List Outcome → ℕ
last_status before [] = before
last_status before (ended ∷ later) = last_status (stage_status ended) later

-- ---- statuses

-- the statuses of sysexits.h where one fits, and the program's own status modulo 256
abbrev pub status_of : Done → ℕ
status_of Good = status.GOOD
status_of (Exited status) = cast_unsigned w32 status % 256
status_of (Faulted f) = status.FAULTED
status_of (Usage kind) = status.USAGE
status_of (NoInput word) = status.NO_INPUT
status_of (ElfRefused f) = status.ELF_REFUSED
status_of (ImageRefused f) = status.IMAGE_REFUSED
status_of (ArgsTooLong n) = status.ARGS_TOO_LONG
status_of (FilesTooLarge n) = status.FILES_TOO_LARGE
status_of (AsmRefused f) = status.ASM_REFUSED
status_of (ObjRefused f) = status.OBJ_REFUSED
status_of (ClassRefused class kind at) = status.CLASS_REFUSED
status_of (LinkRefused f) = status.LINK_REFUSED
status_of (VerifyRefused f) = status.VERIFY_REFUSED
status_of (FrameRefused f) = status.FRAME_REFUSED
status_of (FramesTooLarge class bytes) = status.FRAMES_TOO_LARGE
status_of (Piped stages) = last_status status.GOOD (stages_of stages.stages)
status_of (Trapped k) = status.TRAPPED
status_of Spent = status.SPENT
status_of ReadFault = status.READ_FAULT
status_of WriteFault = status.WRITE_FAULT
status_of ShelfFault = status.SHELF_FAULT
status_of NoMemory = status.NO_MEMORY

-- ---- lines

-- an upper-case hexadecimal digit
abbrev pub hex_digit : ℕ → ℕ
hex_digit d = if nat_lt d 10 then 48 + d else 55 + d

-- a word in eight of them
unfoldable pub hex_word : ℕ → List ℕ
hex_word w = hex_digit (w / 2 ^ 28 % 16) ∷ hex_digit (w / 2 ^ 24 % 16) ∷ hex_digit (w / 2 ^ 20 % 16)
    ∷ hex_digit (w / 2 ^ 16 % 16)
    ∷ hex_digit (w / 2 ^ 12 % 16) ∷ hex_digit (w / 2 ^ 8 % 16) ∷ hex_digit (w / 2 ^ 4 % 16)
    ∷ hex_digit (w % 16) ∷ []

-- pieces one after the other
abbrev pub pieces_joined : List (List ℕ) → List ℕ
pieces_joined [] = []
pieces_joined (piece ∷ pieces) = piece ++ pieces_joined pieces

-- a text and a fault of the guest, as the pieces that end a line
abbrev pub fault_pieces : List ℕ → Fault → List (List ℕ)
fault_pieces text f = text ∷ decimal f.kind ∷ codes " pc " ∷ hex_word f.pc ∷ codes " value "
    ∷ hex_word f.value ∷ codes "\n" ∷ []

abbrev pub fault_line : Fault → List ℕ
fault_line f = pieces_joined (fault_pieces (codes "nested: fault ") f)

-- a text and three numbers, as a line
abbrev pub numbers_line : List ℕ → ℕ → ℕ → ℕ → List ℕ
numbers_line text first second third =
    pieces_joined (text ∷ decimal first ∷ codes " " ∷ decimal second ∷ codes " " ∷ decimal third
    ∷ codes "\n" ∷ [])

abbrev pub elf_line : ElfFault → List ℕ
elf_line f = numbers_line (codes "nested: elf ") f.kind f.i f.j

abbrev pub link_line : LinkFault → List ℕ
link_line f = numbers_line (codes "nested: link ") f.kind f.class f.slot

abbrev pub verify_line : VerifyFault → List ℕ
verify_line f = numbers_line (codes "nested: verify ") f.class f.method f.at

abbrev pub frames_line : FrameFault → List ℕ
frames_line f = numbers_line (codes "nested: frames ") f.class f.method f.kind

abbrev pub tables_line : ℕ → ℕ → List ℕ
tables_line class bytes = pieces_joined (codes "nested: tables " ∷ decimal class ∷ codes " " ∷ decimal bytes
    ∷ codes "\n" ∷ [])

abbrev pub image_line : ImageFault → List ℕ
image_line f = pieces_joined (codes "nested: image " ∷ decimal f.kind ∷ codes " " ∷ decimal f.number
    ∷ codes " " ∷ hex_word f.word ∷ codes "\n" ∷ [])

-- a text and a number, as a line
abbrev pub number_line : List ℕ → ℕ → List ℕ
number_line text n = pieces_joined (text ∷ decimal n ∷ codes "\n" ∷ [])

abbrev pub asm_line : AsmFault → List ℕ
asm_line f = pieces_joined (codes "nested: asm " ∷ decimal f.line ∷ codes " " ∷ decimal f.kind ∷ codes "\n"
    ∷ [])

abbrev pub object_line : ObjFault → List ℕ
object_line f = numbers_line (codes "nested: object ") f.object f.kind f.at

-- the line of a stage, where the stages are numbered from 0
abbrev pub stage_line : ℕ → Outcome → List ℕ
stage_line i (outcome.Exited status) =
    pieces_joined (codes "nested: stage " ∷ decimal i ∷ codes " exited " ∷ signed_decimal status
    ∷ codes "\n" ∷ [])
stage_line i (outcome.Faulted f) =
    pieces_joined (codes "nested: stage " ∷ decimal i ∷ fault_pieces (codes " fault ") f)
stage_line i (outcome.Trapped k) =
    pieces_joined (codes "nested: stage " ∷ decimal i ∷ codes " trap " ∷ decimal k ∷ codes "\n" ∷ [])
stage_line i outcome.Waiting =
    pieces_joined (codes "nested: stage " ∷ decimal i ∷ codes " spent\n" ∷ [])
stage_line i outcome.Going = pieces_joined (codes "nested: stage " ∷ decimal i ∷ codes " spent\n" ∷ [])

-- the lines of stages, the first of which has this number
abbrev pub stage_lines : ℕ → List Outcome → List ℕ
stage_lines i [] = []
stage_lines i (ended ∷ later) = stage_line i ended ++ stage_lines (i + 1) later

-- the line of an answer, with its end, where this name was asked for
abbrev pub answer_line : List ℕ → Done → List ℕ
answer_line name Good = []
answer_line name (Exited status) = []
answer_line name (Faulted f) = fault_line f
answer_line name (Usage kind) = number_line (codes "nested: usage ") kind
answer_line name (NoInput word) = pieces_joined (codes "nested: no file " ∷ name ∷ codes "\n" ∷ [])
answer_line name (ElfRefused f) = elf_line f
answer_line name (ImageRefused f) = image_line f
answer_line name (ArgsTooLong n) = number_line (codes "nested: arguments ") n
answer_line name (FilesTooLarge n) = number_line (codes "nested: files ") n
answer_line name (AsmRefused f) = asm_line f
answer_line name (ObjRefused f) = object_line f
answer_line name (ClassRefused class kind at) = numbers_line (codes "nested: class ") class kind at
answer_line name (LinkRefused f) = link_line f
answer_line name (VerifyRefused f) = verify_line f
answer_line name (FrameRefused f) = frames_line f
answer_line name (FramesTooLarge class bytes) = tables_line class bytes
answer_line name (Piped stages) = stage_lines 0 (stages_of stages.stages)
answer_line name (Trapped k) = number_line (codes "nested: trap ") k
answer_line name Spent = codes "nested: spent\n"
answer_line name ReadFault = codes "nested: read fault\n"
answer_line name WriteFault = []
answer_line name ShelfFault = codes "nested: shelf fault\n"
answer_line name NoMemory = codes "nested: no memory\n"
