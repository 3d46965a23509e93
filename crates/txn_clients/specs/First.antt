-- The Commit of a transaction's primary that was lost first.
use Rattle.std.specs.Prelude.{◌≡◌, ◌≢◌, ℕ, true, List, ◌∷◌, ◌++◌}
use Rattle.std.proofs.Common.{sym, ap, ◌∙◌, append_assoc}
use Rattle.txn_kv.specs.declared.reply.Reply.{Reply}
use Rattle.txn_kv.specs.declared.request.commits.CommitRequest.{CommitRequest}
use Rattle.txn_kv.specs.declared.request.Request.TheVariants.{Commit}
use Rattle.txn_kv.specs.declared.ticket.Ticket.{Ticket}
use Rattle.txn_history.specs.Event.{Event, Has}
use Rattle.txn_history.specs.Event.Event.{Lost, Sent, Took}
use Rattle.txn_history.specs.Plan.{Key, has_key}

-- The first Commit of this primary that was lost, of a transaction that began at s: of each other that was lost before, a reply was taken.
pub record IsFirstLostOfPrimary (s : ℕ) (primary : Key) (h : List Event) (ticket : Ticket) : Type 0 where
  pub request : CommitRequest
  pub newer : List Event
  pub older : List Event
  pub splits : h ≡ newer ++ Lost ticket (Commit request) ∷ older
  pub start : request.start_version ≡ s
  pub key : has_key request.keys primary ≡ true
  pub first : (u : Ticket) (r : CommitRequest) → u ≢ ticket → Has older (Sent u (Commit r)) → Has older (Lost u (Commit r)) → r.start_version ≡ s → has_key r.keys primary ≡ true → (o : Reply) × Has older (Took u (Commit r) o)

-- the history goes on behind what there was
abbrev pub Front : List Event → List Event → Type 0
Front h longer = (newer : List Event) × (longer ≡ newer ++ h)

-- lemmas

pub first_front : (s : ℕ) (k : Key) (h longer : List Event) (u : Ticket) → Front h longer → IsFirstLostOfPrimary s k h u → IsFirstLostOfPrimary s k longer u
first_front s k h longer u f l = record {
  request = l.request;
  newer = f.0 ++ l.newer;
  older = l.older;
  splits = f.1 ∙ ap (λ g. f.0 ++ g) l.splits ∙ sym (append_assoc f.0 l.newer (Lost u (Commit l.request) ∷ l.older));
  start = l.start;
  key = l.key;
  first = l.first;
}
