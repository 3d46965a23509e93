-- A client's asks for timestamps, and what they are answered.
use Rattle.std.specs.Prelude.{ℕ, ◌<◌, ◌≤◌, ◌^◌, ◌==◌, ◌&&◌, ◌||◌, Bool, not, if◌then◌else◌, List, [], ◌∷◌, length, take, drop, Option, Some, None, is_none, Result, Ok, Err, IfOk, nat_eq, pos, int_le, int_lt, ◌-ℤ◌}
use Rattle.std.specs.List.{All}
use Rattle.txn_kv.specs.Timestamp.{HasVersion, version_of}
use Rattle.txn_kv.specs.declared.errors.Error.{Error}
use Rattle.txn_kv.specs.declared.errors.Error.TheVariants.{InternalError}
use Rattle.txn_kv.specs.declared.errors.Internal.TheVariants.{OracleCount, OracleEmpty}
use Rattle.txn_kv.specs.declared.reply.cluster.TsoResponse.{TsoResponse}
use Rattle.txn_kv.specs.declared.request.cluster.TsoRequest.{TsoRequest}
use Rattle.txn_kv.specs.declared.timestamp.Timestamp.{Timestamp}
use Rattle.txn_tso.specs.declared.asker.Asker.{Asker}

-- those that wait, the earliest first; and the group that is out, if one is
pub record Oracle : Type 0 where
  pub queue : List Asker
  pub out : Option (List Asker)

abbrev pub idle : Oracle
idle = record { queue = []; out = None }

-- how many go out together at most
abbrev pub most : ℕ
most = 64

abbrev pub IsGroup : Option (List Asker) → Type 0
IsGroup None = Unit {0}
IsGroup (Some group) = length group ≤ most

-- no group is out, and somebody waits
abbrev pub is_ready : Oracle → Bool
is_ready o = is_none o.out && not (length o.queue == 0)

-- one timestamp is asked for each that goes out
abbrev pub next_request : Oracle → Option TsoRequest
next_request o = if is_ready o then Some (record { count = length (take most o.queue) }) else None

-- the first go out
abbrev pub with_next_group : Oracle → Oracle
with_next_group o = if is_ready o then record { queue = drop most o.queue; out = Some (take most o.queue) } else o

abbrev pub group_or_none : Option (List Asker) → List Asker
group_or_none None = []
group_or_none (Some group) = group

abbrev pub askers_out : Oracle → List Asker
askers_out o = group_or_none o.out

-- the parts are in range
abbrev pub has_version : Timestamp → Bool
has_version t = int_le (pos 0) t.physical && int_lt t.physical (pos (2 ^ 46)) && int_le (pos 0) t.logical && int_lt t.logical (pos (2 ^ 18))

-- the reply is for another number of asks, or its timestamp is the last of fewer
abbrev pub is_unlike : Timestamp → ℕ → ℕ → Bool
is_unlike last given asked = not (nat_eq given asked) || int_lt last.logical (pos asked -ℤ pos 1)

-- Timestamps of one reply follow one another, and it names the last of them: an asker gets the one that is as far before it
-- as there are askers behind.
abbrev pub granted : Timestamp → ℕ → ℕ → ℕ → Result Timestamp Error
granted last given asked behind =
    if is_unlike last given asked then Err (InternalError (OracleCount asked given)) else Ok (record last { logical = last.logical -ℤ pos behind })

abbrev pub granted_if : Option Timestamp → ℕ → ℕ → ℕ → Result Timestamp Error
granted_if None given asked behind = Err (InternalError OracleEmpty)
granted_if (Some last) given asked behind = if has_version last then granted last given asked behind else Err (InternalError OracleEmpty)

-- what an asker with so many others behind it is answered
abbrev pub answer : TsoResponse → ℕ → ℕ → Result Timestamp Error
answer reply asked behind = granted_if reply.timestamp reply.count asked behind

abbrev pub Answer : Type 0
Answer = Asker × Result Timestamp Error

-- each of a group, in its order
abbrev pub answers : TsoResponse → ℕ → List Asker → List Answer
answers reply asked [] = []
answers reply asked (a ∷ rest) = (a, answer reply asked (length rest)) ∷ answers reply asked rest

abbrev pub answered : TsoResponse → Oracle → List Answer
answered reply o = answers reply (length (askers_out o)) (askers_out o)

-- of two timestamps the first is below the second
abbrev pub IsBelow : Result Timestamp Error → Result Timestamp Error → Type 0
IsBelow (Ok s) (Ok t) = version_of s < version_of t
IsBelow _ _ = Unit {0}

-- each timestamp is below all that follow
abbrev pub AreRising : List Answer → Type 0
AreRising [] = Unit {0}
AreRising (a ∷ rest) = All (λ b. IsBelow a.1 b.1) rest × AreRising rest

abbrev pub HasVersionIfOk : Answer → Type 0
HasVersionIfOk a = IfOk a.1 HasVersion
