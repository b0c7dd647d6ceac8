-- How files are kept: the entries of a table, and the bytes of each by the same number.
use Rattle.std.specs.Prelude.{◌≡◌, ℕ, Bool, false, List, [], ◌∷◌, length, Option, None, Some, option_map, unwrap_or, bytes_eq, slice_index_or}
use Rattle.unix_definition.specs.Files.{Node, GuestFiles}
use Rattle.unix_files.specs.Stored.{Contents, file_at}
use Rattle.unix_files.specs.declared.disk.Entry.{Entry}

abbrev pub node_of : Option Entry → List ℕ → Option Node
node_of None bytes = None
node_of (Some entry) bytes = Some (record { name = entry.name; bytes = bytes })

abbrev pub nodes_of : List (Option Entry) → List (List ℕ) → List (Option Node)
nodes_of [] files = []
nodes_of (entry ∷ entries) [] = node_of entry [] ∷ nodes_of entries []
nodes_of (entry ∷ entries) (file ∷ files) = node_of entry file ∷ nodes_of entries files

abbrev pub files_of : List (Option Entry) → Contents → GuestFiles
files_of entries store = record { nodes = nodes_of entries store.files; free = store.free }

abbrev pub entry_at : List (Option Entry) → ℕ → Option Entry
entry_at entries n = slice_index_or entries n None

abbrev pub entry_name : Option Entry → Option (List ℕ)
entry_name None = None
entry_name (Some entry) = entry.name

abbrev pub entry_has_name : List ℕ → Option Entry → Bool
entry_has_name name entry = unwrap_or (option_map (bytes_eq name) (entry_name entry)) false

-- There are 256 of each, and where no file is there are no bytes.
pub record IsKeptDisk (entries : List (Option Entry)) (store : Contents) : Type 0 where
  pub entries_all : length entries ≡ 256
  pub files_all : length store.files ≡ 256
  pub unused : (n : ℕ) → entry_at entries n ≡ None → file_at store n ≡ []
