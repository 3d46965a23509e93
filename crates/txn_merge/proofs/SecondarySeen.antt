-- What is seen reply by reply is what all replies together tell.
use Rattle.std.proofs.Common.{◌≡◌, ◌==◌, ℕ, max, Bool, true, false, List, [], ◌∷◌, map, refl, ap, ◌∙◌, arith, if◌then◌else◌}
use Rattle.std.specs.Prelude.{◌||◌}
use Rattle.std.specs.List.{list_any}
use Rattle.std.proofs.lemmas.Bool.Decides.{nat_tests}
use Rattle.txn_kv.specs.declared.reply.locks.CheckSecondaryLocksResponse.{CheckSecondaryLocksResponse}
use Rattle.txn_merge.specs.Secondary.{after_reply, any_plain, bounds, finished, first_named, greatest, named_timestamp, nothing_seen, status_of}
use Rattle.txn_merge.specs.declared.secondary_locks_status.Seen.{Seen}

abbrev pub all_seen : Seen → List CheckSecondaryLocksResponse → Seen
all_seen seen [] = seen
all_seen seen (reply ∷ replies) = all_seen (after_reply seen reply) replies

or_assoc : (a b c : Bool) → ((a || b) || c) ≡ (a || (b || c))
or_assoc true b c = refl
or_assoc false b c = refl

max_assoc : (a b c : ℕ) → max (max a b) c ≡ max a (max b c)
max_assoc a b c = omega arith

or_false : (b : Bool) → b ≡ (b || false)
or_false true = refl
or_false false = refl

kept_alone : (kept : ℕ) → kept ≡ (if kept == 0 then 0 else kept)
kept_alone kept = grind (arith, nat_tests)

kept_first : (kept given later : ℕ) → (if (if kept == 0 then given else kept) == 0 then later else (if kept == 0 then given else kept)) ≡ (if kept == 0 then (if given == 0 then later else given) else kept)
kept_first kept given later = grind (arith, nat_tests)

max_none : (n : ℕ) → max 0 n ≡ n
max_none n = omega arith

commit_seen : (seen : Seen) (replies : List CheckSecondaryLocksResponse) → (all_seen seen replies).commit ≡ (if seen.commit == 0 then first_named replies else seen.commit)
commit_seen seen [] = kept_alone seen.commit
commit_seen seen (reply ∷ replies) = commit_seen (after_reply seen reply) replies ∙ kept_first seen.commit reply.commit_ts (first_named replies)

bound_seen : (seen : Seen) (replies : List CheckSecondaryLocksResponse) → (all_seen seen replies).min_commit_ts ≡ max seen.min_commit_ts (greatest (map (λ reply. greatest (bounds reply.locks)) replies))
bound_seen seen [] = omega arith
bound_seen seen (reply ∷ replies) = bound_seen (after_reply seen reply) replies ∙ max_assoc seen.min_commit_ts (greatest (bounds reply.locks)) (greatest (map (λ reply. greatest (bounds reply.locks)) replies))

plain_seen : (seen : Seen) (replies : List CheckSecondaryLocksResponse) → (all_seen seen replies).fallback_2pc ≡ (seen.fallback_2pc || list_any (λ reply. any_plain reply.locks) replies)
plain_seen seen [] = or_false seen.fallback_2pc
plain_seen seen (reply ∷ replies) = plain_seen (after_reply seen reply) replies ∙ or_assoc seen.fallback_2pc (any_plain reply.locks) (list_any (λ reply. any_plain reply.locks) replies)

missing_seen : (seen : Seen) (replies : List CheckSecondaryLocksResponse) → (all_seen seen replies).missing ≡ (seen.missing || list_any (λ reply. reply.missing) replies)
missing_seen seen [] = or_false seen.missing
missing_seen seen (reply ∷ replies) = missing_seen (after_reply seen reply) replies ∙ or_assoc seen.missing reply.missing (list_any (λ reply. reply.missing) replies)

pub finished-all : (replies : List CheckSecondaryLocksResponse) → finished (all_seen nothing_seen replies) ≡ status_of replies
finished-all replies =
    ap (λ commit. record { commit_ts = named_timestamp commit; min_commit_ts = (all_seen nothing_seen replies).min_commit_ts; fallback_2pc = (all_seen nothing_seen replies).fallback_2pc; missing = (all_seen nothing_seen replies).missing }) (commit_seen nothing_seen replies)
    ∙ ap (λ bound. record { commit_ts = named_timestamp (first_named replies); min_commit_ts = bound; fallback_2pc = (all_seen nothing_seen replies).fallback_2pc; missing = (all_seen nothing_seen replies).missing }) (bound_seen nothing_seen replies ∙ max_none (greatest (map (λ reply. greatest (bounds reply.locks)) replies)))
    ∙ ap (λ plain. record { commit_ts = named_timestamp (first_named replies); min_commit_ts = greatest (map (λ reply. greatest (bounds reply.locks)) replies); fallback_2pc = plain; missing = (all_seen nothing_seen replies).missing }) (plain_seen nothing_seen replies)
    ∙ ap (λ missing. record { commit_ts = named_timestamp (first_named replies); min_commit_ts = greatest (map (λ reply. greatest (bounds reply.locks)) replies); fallback_2pc = list_any (λ reply. any_plain reply.locks) replies; missing = missing }) (missing_seen nothing_seen replies)

pub finished_from : (seen : Seen) (replies : List CheckSecondaryLocksResponse) → seen ≡ all_seen nothing_seen replies → finished seen ≡ status_of replies
finished_from seen replies e = ap finished e ∙ finished-all replies
