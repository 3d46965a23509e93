-- What a region error or a loss asks for.
use Rattle.std.specs.Prelude.{ℕ, Bool, true, false, ◌&&◌, ◌||◌, if◌then◌else◌, nat_eq, nat_lt, List, [], ◌∷◌, Option, Some, None, is_none}
use Rattle.std.specs.List.{find, list_any}
use Rattle.std.specs.Option.{option_map}
use Rattle.txn_kv.specs.Backoff.{after_attempt, delay_of, is_spent, saturated}
use Rattle.txn_kv.specs.declared.backoff.Backoff.{Backoff}
use Rattle.txn_kv.specs.declared.message.Peer.{Peer}
use Rattle.txn_kv.specs.declared.message.Region.{Region}
use Rattle.txn_kv.specs.declared.message.RegionEpoch.{RegionEpoch}
use Rattle.txn_kv.specs.declared.message.RegionErr.{RegionErr}
use Rattle.txn_kv.specs.declared.message.RegionErr.TheVariants.{NotLeader, RegionNotFound, EpochNotMatch, StoreNotMatch, StaleCommand, ServerIsBusy, RaftEntryTooLarge, MaxTimestampNotSynced, Unknown}
use Rattle.txn_kv.specs.declared.region.RegionVerId.{RegionVerId}
use Rattle.txn_retry.specs.declared.remedy.CacheChange.{CacheChange}
use Rattle.txn_retry.specs.declared.remedy.CacheChange.TheVariants.{Keep, Invalidate, UpdateLeader}
use Rattle.txn_retry.specs.declared.remedy.Next.{Next}
use Rattle.txn_retry.specs.declared.remedy.Next.TheVariants.{AtOnce, Sleep, End, EndWithoutEpoch}
use Rattle.txn_retry.specs.declared.remedy.Remedy.{Remedy}

abbrev pub doing : CacheChange → Next → Remedy
doing change next = record { change = change; next = next }

abbrev pub older_epoch : RegionVerId → Option RegionEpoch → Bool
older_epoch used None = false
older_epoch used (Some epoch) = nat_lt epoch.conf_ver used.conf_ver || nat_lt epoch.version used.ver

-- the region that was used, at a conf version or a version below the one used: the store lags behind the client
abbrev pub is_older : RegionVerId → Region → Bool
is_older used region = nat_eq region.id used.id && older_epoch used region.region_epoch

abbrev pub first_without_epoch : List Region → Option ℕ
first_without_epoch listed = option_map (λ r. r.id) (find (λ r. is_none r.region_epoch) listed)

abbrev pub on_listed : Option ℕ → Bool → ℕ → Remedy
on_listed (Some id) lags ms = doing Keep (EndWithoutEpoch id)
on_listed None true ms = doing Keep (Sleep ms)
on_listed None false ms = doing Invalidate (Sleep ms)

abbrev pub on_epochs : List Region → RegionVerId → ℕ → Remedy
on_epochs [] used ms = doing Invalidate AtOnce
on_epochs (r ∷ rs) used ms = on_listed (first_without_epoch (r ∷ rs)) (list_any (is_older used) (r ∷ rs)) ms

abbrev pub on_leader : Option Peer → ℕ → Remedy
on_leader (Some leader) ms = doing (UpdateLeader leader) AtOnce
on_leader None ms = doing Invalidate (Sleep ms)

-- where an attempt is left, after which a sleep lasts so long
abbrev pub remedy_of : RegionErr → RegionVerId → ℕ → Remedy
remedy_of (NotLeader id leader) used ms = on_leader leader ms
remedy_of StoreNotMatch used ms = doing Invalidate (Sleep ms)
remedy_of StaleCommand used ms = doing Invalidate (Sleep ms)
remedy_of (RegionNotFound id) used ms = doing Invalidate (Sleep ms)
remedy_of Unknown used ms = doing Invalidate (Sleep ms)
remedy_of (EpochNotMatch listed) used ms = on_epochs listed used ms
remedy_of ServerIsBusy used ms = doing Keep End
remedy_of RaftEntryTooLarge used ms = doing Keep End
remedy_of MaxTimestampNotSynced used ms = doing Keep End

-- how long the next attempt of a backoff waits, if one is left
abbrev pub delay_ms : Backoff → Option ℕ
delay_ms b = if is_spent b then None else Some (saturated (delay_of b.kind b 0))

-- the backoff once an attempt was taken, where one was left
abbrev pub after : Backoff → Backoff
after b = if is_spent b then b else after_attempt b 0

-- a region error, where the backoff has such a delay left or is spent
abbrev pub on_region_error : Option ℕ → RegionErr → RegionVerId → Remedy
on_region_error (Some ms) error used = remedy_of error used ms
on_region_error None error used = doing Keep End

-- a request was lost
abbrev pub on_loss : Option ℕ → Remedy
on_loss (Some ms) = doing Invalidate (Sleep ms)
on_loss None = doing Invalidate End
