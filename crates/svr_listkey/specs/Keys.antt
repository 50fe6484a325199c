-- Entries of listed documents.
use Rattle.std.specs.Prelude.{ℕ, ◌<◌, ◌^◌, List, IfSome}
use Rattle.svr_num.specs.declared.list_key.ListKey.{ListKey}
use Rattle.svr_idmap.specs.Ids.{value_at}

-- each entry has a key below 2^48
abbrev pub HaveKeys : List (ℕ × ListKey) → Type 0
HaveKeys entries = (id : ℕ) → IfSome (value_at entries id) (λ entry. entry.key < 2 ^ 48)
