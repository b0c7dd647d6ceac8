use Rattle.std.proofs.Common.{◌≡◌, ℕ, List, ◌<◌, ◌≤◌, ◌+◌, ◌-◌, ◌++◌, ap, sym, ◌∙◌, arith, length, replicate}
use Rattle.std.proofs.lemmas.List.{length-set}
use Rattle.unix_definition.specs.Files.{blocks_for, with_bytes, written}
use Rattle.unix_files.specs.Stored.{Contents, file_at, with_file, overwritten}
use Rattle.unix_files.specs.Kept.{files_of}
use Rattle.unix_files.proofs.FileLemmas.{stored-again, file_at-with_file, length-zeros_behind}
use Rattle.unix_files.proofs.DiskLemmas.{bytes-is, within-files, room-is, bytes-set, IsKept-bytes, written-over}
use Rattle.unix_files.proofs.disk.Disk.write_there.Goals as goal
use Rattle.unix_files.proofs.disk.Disk.write_there.Goals.{After-write}

pub extend-requires-clause-file : goal.extend-requires-clause-file
extend-requires-clause-file c = within-files c.self.inside.entries.items c.self.inside.store c.args.self.now c.self.view_is c.self.invariant c.args.n c.requires.file

pub extend-requires-clause-room : goal.extend-requires-clause-room
extend-requires-clause-room c = let r = room-is c.self.inside.entries.items c.self.inside.store c.args.self.now c.self.view_is c.self.invariant c.args.n (c.args.place + length c.args.bytes.now) c.requires.room in omega arith

abbrev gap : List ℕ → ℕ → List ℕ
gap file place = file ++ replicate (place - length file) 0

gap-room : (s : Contents) (n place more : ℕ) → blocks_for (place + more) ≤ blocks_for (length (file_at s n)) + s.free → blocks_for (length (gap (file_at s n) place)) ≤ blocks_for (length (file_at s n)) + s.free
gap-room s n place more r = let l = length-zeros_behind (file_at s n) (place - length (file_at s n)) in omega arith

pub write-requires-clause-file : goal.write-requires-clause-file
write-requires-clause-file c =
    let d = c.self.inside in
    let e : length c.extend.new.self.files ≡ length d.store.files = ap (λ s. length s.files) c.extend.ensures ∙ length-set d.store.files c.args.n (gap (file_at d.store c.args.n) c.args.place) in
    let i = within-files c.self.inside.entries.items c.self.inside.store c.args.self.now c.self.view_is c.self.invariant c.args.n c.requires.file in
    omega arith

pub write-requires-clause-within : goal.write-requires-clause-within
write-requires-clause-within c =
    let d = c.self.inside in
    let file = file_at d.store c.args.n in
    let e : length (file_at c.extend.new.self c.args.n) ≡ length file + (c.args.place - length file) =
    ap (λ s. length (file_at s c.args.n)) c.extend.ensures ∙ (ap length (file_at-with_file d.store c.args.n (gap file c.args.place) (within-files c.self.inside.entries.items c.self.inside.store c.args.self.now c.self.view_is c.self.invariant c.args.n c.requires.file)) ∙ length-zeros_behind file (c.args.place - length file)) in
    omega arith

pub write-requires-clause-room : goal.write-requires-clause-room
write-requires-clause-room c =
    let d = c.self.inside in
    let file = file_at d.store c.args.n in
    let bytes : length (file_at c.extend.new.self c.args.n) ≡ length (gap file c.args.place) =
    ap (λ s. length (file_at s c.args.n)) c.extend.ensures ∙ ap length (file_at-with_file d.store c.args.n (gap file c.args.place) (within-files c.self.inside.entries.items c.self.inside.store c.args.self.now c.self.view_is c.self.invariant c.args.n c.requires.file)) in
    let free : c.extend.new.self.free ≡ d.store.free + blocks_for (length file) - blocks_for (length (gap file c.args.place)) = ap (λ s. s.free) c.extend.ensures in
    let r = room-is c.self.inside.entries.items c.self.inside.store c.args.self.now c.self.view_is c.self.invariant c.args.n (c.args.place + length c.args.bytes.now) c.requires.room in
    let g = gap-room d.store c.args.n c.args.place (length c.args.bytes.now) r in
    rw (bytes, free) (omega arith)

-- both steps are one change of the file
both : (c : After-write) → blocks_for (c.args.place + length c.args.bytes.now) ≤ blocks_for (length (file_at c.self.inside.store c.args.n)) + c.self.inside.store.free → c.args.n < length c.self.inside.store.files
    → c.write.new.self ≡ with_file c.self.inside.store c.args.n (written (file_at c.self.inside.store c.args.n) c.args.place c.args.bytes.now)
both c r i =
    let d = c.self.inside in
    let file = file_at d.store c.args.n in
    stored-again d.store c.extend.new.self c.write.new.self c.args.n (gap file c.args.place) (λ l. overwritten l c.args.place c.args.bytes.now) i (gap-room d.store c.args.n c.args.place (length c.args.bytes.now) r) c.extend.ensures c.write.ensures
    ∙ ap (with_file d.store c.args.n) (written-over file c.args.bytes.now c.args.place)

pub invariant_of-self : goal.invariant_of-self
invariant_of-self c =
    let d = c.self.inside in
    rw (both c (room-is c.self.inside.entries.items c.self.inside.store c.args.self.now c.self.view_is c.self.invariant c.args.n (c.args.place + length c.args.bytes.now) c.requires.room) (within-files c.self.inside.entries.items c.self.inside.store c.args.self.now c.self.view_is c.self.invariant c.args.n c.requires.file)) (IsKept-bytes d.entries.items d.store c.args.self.now c.self.view_is c.self.invariant c.args.n (written (file_at d.store c.args.n) c.args.place c.args.bytes.now) c.requires.file)

pub returns : goal.returns
returns c =
    let d = c.self.inside in
    let v = c.args.self.now in
    ap (files_of d.entries.items) (both c (room-is c.self.inside.entries.items c.self.inside.store c.args.self.now c.self.view_is c.self.invariant c.args.n (c.args.place + length c.args.bytes.now) c.requires.room) (within-files c.self.inside.entries.items c.self.inside.store c.args.self.now c.self.view_is c.self.invariant c.args.n c.requires.file))
    ∙ (bytes-set d.entries.items d.store v c.self.view_is c.self.invariant c.args.n (written (file_at d.store c.args.n) c.args.place c.args.bytes.now) c.requires.file
    ∙ ap (λ l. with_bytes v c.args.n (written l c.args.place c.args.bytes.now)) (sym (bytes-is d.entries.items d.store v c.self.view_is c.self.invariant c.args.n)))
