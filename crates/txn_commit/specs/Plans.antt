-- A plan of a Prewrite, a Commit or a BatchRollback: which requests it sends, and what its answer says.
use Rattle.std.specs.Prelude.{◌≡◌, ◌⊎◌, ◌≤◌, ℕ, ⊤, true, false, List, length, None, Result, Ok, Err, refl}
use Rattle.std.proofs.Common.{ap, ◌∙◌}
use Rattle.txn_kv.specs.declared.errors.Error.{Error}
use Rattle.txn_kv.specs.declared.message.Mutation.{Mutation}
use Rattle.txn_kv.specs.declared.reply.commits.PrewriteResponse.{PrewriteResponse}
use Rattle.txn_kv.specs.declared.reply.Reply.TheVariants as reply
use Rattle.txn_kv.specs.declared.request.commits.PrewriteRequest.{PrewriteRequest}
use Rattle.txn_kv.specs.declared.request.Request.{Request}
use Rattle.txn_kv.specs.declared.request.Request.TheVariants.{Prewrite, Commit, BatchRollback}
use Rattle.txn_kv.specs.declared.ticket.Ticket.{Ticket}
use Rattle.txn_history.specs.Among.{IsAmong}
use Rattle.txn_history.specs.Event.{Event, Has}
use Rattle.txn_history.specs.Event.Event.{Took}
use Rattle.txn_history.specs.Foreign.{IsForeign}
use Rattle.txn_history.specs.Licence.{IsAcknowledged, IsPassed, IsWithoutError, PrimaryCommitted, PrimaryRolledBack}
use Rattle.txn_history.specs.Meaning.{IsUnbegun, Meaning}
use Rattle.txn_history.specs.Plan.{Key, has_key, AreDistinct, LocksKey, Plan}
use Rattle.txn_history.specs.Plan.Way.{TwoPhases}
use Rattle.txn_history.specs.Posted.{Within}

-- The requests that one is cut into are of its start, and of nothing that it doesn't name. Where a Commit names some key, each
-- of them does. Those of a Prewrite are alike to it but for their contexts and mutations, and name no key twice where it names none.

abbrev pub IsOfPrewrite : PrewriteRequest → Request → Type 0
IsOfPrewrite whole (Prewrite r) = (r ≡ record whole { context = r.context; mutations = r.mutations }) × ((m : Mutation) → IsAmong r.mutations m → IsAmong whole.mutations m) × (AreDistinct whole.mutations → AreDistinct r.mutations)
IsOfPrewrite whole _ = ⊥

abbrev pub IsOfCommit : ℕ → ℕ → List Key → Request → Type 0
IsOfCommit s c ks (Commit r) = (r.start_version ≡ s) × (r.commit_version ≡ c) × ((k : Key) → has_key r.keys k ≡ true → has_key ks k ≡ true) × ((k : Key) → has_key ks k ≡ true → (j : Key) × (has_key r.keys j ≡ true))
IsOfCommit s c ks _ = ⊥

abbrev pub IsOfRollback : ℕ → List Key → Request → Type 0
IsOfRollback s ks (BatchRollback r) = (r.start_version ≡ s) × ((k : Key) → has_key r.keys k ≡ true → has_key ks k ≡ true)
IsOfRollback s ks _ = ⊥

abbrev pub IsPartOf : Request → Request → Type 0
IsPartOf (Prewrite r) part = IsOfPrewrite r part
IsPartOf (Commit r) part = IsOfCommit r.start_version r.commit_version r.keys part
IsPartOf (BatchRollback r) part = IsOfRollback r.start_version r.keys part
IsPartOf _ part = ⊥

-- a transaction of one key, which writes nothing
abbrev pub only_key : Key → Plan
only_key k = record { primary = k; ops = λ _. None; writes = λ _. None; way = TwoPhases; one_phase = false }

-- Each mutation or key that it names was answered without error.

-- a Prewrite with the mutation was, be it one that locks its key or a check, alike to this one but for its context and mutations
pub record IsPrewritten (whole : PrewriteRequest) (m : Mutation) (h : List Event) : Type 0 where
  pub ticket : Ticket
  pub request : PrewriteRequest
  pub response : PrewriteResponse
  pub taken : Has h (Took ticket (Prewrite request) (reply.Prewrite response))
  pub fine : IsWithoutError (reply.Prewrite response)
  pub alike : request ≡ record whole { context = request.context; mutations = request.mutations }
  pub names : IsAmong request.mutations m

abbrev pub ArePrewritten : PrewriteRequest → List Event → Type 0
ArePrewritten whole h = (m : Mutation) → IsAmong whole.mutations m → IsPrewritten whole m h

abbrev pub AreCommitted : ℕ → ℕ → List Key → List Event → Type 0
AreCommitted s c ks h = (k : Key) → has_key ks k ≡ true → PrimaryCommitted (only_key k) h s c

abbrev pub AreRolledBack : ℕ → List Key → List Event → Type 0
AreRolledBack s ks h = (k : Key) → has_key ks k ≡ true → PrimaryRolledBack (only_key k) h s

abbrev pub IsAnswered : Request → List Event → Type 0
IsAnswered (Prewrite r) h = ArePrewritten r h
IsAnswered (Commit r) h = AreCommitted r.start_version r.commit_version r.keys h
IsAnswered (BatchRollback r) h = AreRolledBack r.start_version r.keys h
IsAnswered _ h = ⊤

-- how many keys it names
abbrev pub size_of : Request → ℕ
size_of (Prewrite r) = length r.mutations
size_of (Commit r) = length r.keys
size_of (BatchRollback r) = length r.keys
size_of _ = 0

-- A plan that is not begun yet. Where a request of so many keys is cut into so many parts at most, it posts no more than this.
pub record IsPlanFor {S A : Type 0} (m : Meaning S (Result A Error)) (refuses : List Event → Error → Type 0) (costs : ℕ → ℕ → ℕ) (request : Request) (p : S) : Type 0 where
  pub unbegun : IsUnbegun m p
  pub ready : m.ready p
  pub light : (n : ℕ) → m.round p n ≤ costs (size_of request) n
  pub asks : (h : List Event) (r : Request) → m.asks p h r → IsPartOf request r ⊎ IsForeign h r
  pub means : (h : List Event) (v : A) → m.gives p h (Ok v) → IsAnswered request h
  pub fails : (h : List Event) (e : Error) → m.gives p h (Err e) → refuses h e

-- and one that is under way
pub record IsUnderWay {S A : Type 0} (m : Meaning S (Result A Error)) (refuses : List Event → Error → Type 0) (part : Request → Type 0) (answered : List Event → Type 0) (p : S) : Type 0 where
  pub asks : (h : List Event) (r : Request) → m.asks p h r → part r ⊎ IsForeign h r
  pub means : (h : List Event) (v : A) → m.gives p h (Ok v) → answered h
  pub fails : (h : List Event) (e : Error) → m.gives p h (Err e) → refuses h e

-- all that a plan asks for is parts of this Prewrite, or is foreign
abbrev pub PrewritesOnly : {S A : Type 0} → Meaning S A → PrewriteRequest → S → Type 0
PrewritesOnly m whole p = (h : List Event) (r : Request) → m.asks p h r → IsOfPrewrite whole r ⊎ IsForeign h r

-- what its answer says
abbrev pub Says : {A : Type 0} → (List Event → Error → Type 0) → (List Event → Type 0) → List Event → Result A Error → Type 0
Says refuses answered h (Ok v) = answered h
Says refuses answered h (Err e) = refuses h e

-- lemmas

-- a key that a mutation locks was acknowledged, where nothing commits all at once
pub prewritten_key : (whole : PrewriteRequest) (h : List Event) (k : Key) → ArePrewritten whole h → whole.try_one_pc ≡ false → LocksKey whole.mutations k → IsAcknowledged h whole.start_version k
prewritten_key whole h k all locking locked = let p = all locked.0 locked.2 in record {
  ticket = p.ticket;
  request = p.request;
  response = p.response;
  taken = p.taken;
  fine = p.fine;
  start = ap (λ (r : PrewriteRequest). r.start_version) p.alike;
  locks = (locked.0, locked.1, p.names, locked.3, locked.4);
  locking = ap (λ (r : PrewriteRequest). r.try_one_pc) p.alike ∙ locking;
}

-- and one of which there is a mutation has passed
pub prewritten_passed : (whole : PrewriteRequest) (h : List Event) (m : Mutation) → ArePrewritten whole h → IsAmong whole.mutations m → IsPassed h whole.start_version m.key
prewritten_passed whole h m all among = let p = all m among in record {
  ticket = p.ticket;
  request = p.request;
  response = p.response;
  taken = p.taken;
  fine = p.fine;
  start = ap (λ (r : PrewriteRequest). r.start_version) p.alike;
  mutation = m;
  names = p.names;
  key = refl;
}

pub committed_longer : (plan : Plan) (s c : ℕ) (h k : List Event) → Within h k → PrimaryCommitted plan h s c → PrimaryCommitted plan k s c
committed_longer plan s c h k w g = (g.0, g.1, g.2, w _ g.3, g.4, g.5, g.6, g.7)

-- what is said of Commits stays so
pub says_longer : {A : Type 0} (refuses : List Event → Error → Type 0) (s c : ℕ) (keys : List Key)
    → ((h longer : List Event) (e : Error) → Within h longer → refuses h e → refuses longer e)
    → (h longer : List Event) (v : Result A Error) → Within h longer → Says refuses (AreCommitted s c keys) h v → Says refuses (AreCommitted s c keys) longer v
says_longer refuses s c keys more h longer (Ok v) w g = λ k i. committed_longer (only_key k) s c h longer w (g k i)
says_longer refuses s c keys more h longer (Err e) w g = more h longer e w g
