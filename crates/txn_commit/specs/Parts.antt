-- The parts of a commit: what of a buffer is prewritten, under which primary, and which keys are then committed.
use Rattle.std.specs.Prelude.{Bool, not, List, [], ◌∷◌, map, filter, Option, Some, None, is_some, option_map}
use Rattle.txn_buffer.specs.Contents.{Contents, commit_primary, mutations}
use Rattle.txn_kv.specs.declared.message.Mutation.{Mutation}
use Rattle.txn_history.specs.Plan.{Key, key_eq, content_of}
use Rattle.txn_commit.specs.declared.commit_parts.CommitParts.{CommitParts}

-- the mutation locks its key: it writes it, or only locks it
abbrev pub locks : Mutation → Bool
locks m = is_some (content_of m)

abbrev pub or_key : Option Key → Key → Key
or_key None key = key
or_key (Some primary) key = primary

-- The primary of the buffer where it is locked, else the least key that is. Where none is locked it is the buffer's primary,
-- or the least key where none is set.
abbrev pub named_primary : Contents → List Mutation → Option Key
named_primary contents [] = None
named_primary contents (m ∷ ms) = Some (or_key (commit_primary contents) (or_key contents.primary m.key))

-- the keys that are locked, in their order
abbrev pub locking_keys : List Mutation → List Key
locking_keys ms = map (λ m. m.key) (filter locks ms)

-- and those of them that are not the primary
abbrev pub secondary_keys : Key → List Mutation → List Key
secondary_keys primary ms = filter (λ key. not (key_eq key primary)) (locking_keys ms)

abbrev pub parts_under : Contents → Key → CommitParts
parts_under contents primary = record {
  mutations = mutations contents.entries;
  primary = primary;
  secondaries = secondary_keys primary (mutations contents.entries);
  locks = is_some (commit_primary contents);
}

abbrev pub parts_of : Contents → Option CommitParts
parts_of contents = option_map (parts_under contents) (named_primary contents (mutations contents.entries))
