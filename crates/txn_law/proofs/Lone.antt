-- The licences of a transaction that puts one key.
use Rattle.std.proofs.Common.{◌≡◌, ℕ, inl, inr, Bool, true, false, List, [], ◌∷◌, Some, None, refl, sym, ap, ◌∙◌, subst}
use Rattle.std.specs.Prelude.{if◌then◌else◌}
use Rattle.txn_kv.specs.declared.ticket.Ticket.{Ticket}
use Rattle.txn_kv.specs.declared.message.Mutation.{Mutation}
use Rattle.txn_kv.specs.declared.message.Op.TheVariants.{Put, CheckNotExists}
use Rattle.txn_kv.specs.declared.request.Request.TheVariants.{Prewrite}
use Rattle.txn_kv.specs.declared.request.commits.PrewriteRequest.{PrewriteRequest}
use Rattle.txn_kv.specs.declared.request.commits.CommitRequest.{CommitRequest}
use Rattle.txn_kv.specs.declared.reply.Reply.TheVariants as reply
use Rattle.txn_kv.specs.declared.reply.commits.PrewriteResponse.{PrewriteResponse}
use Rattle.txn_history.specs.Among.{IsAmong}
use Rattle.txn_history.specs.Event.{Event, Has}
use Rattle.txn_history.specs.Event.Event.{Took}
use Rattle.txn_history.specs.Licence.{IsWithoutError, WasGiven, AllAcknowledged, PrewriteLicence, PrimaryCommitLicence, CommitLicence}
use Rattle.txn_history.specs.Plan.{Key, key_eq, has_key, Content, content_of, AreDistinct, IsPlanned, LocksKey}
use Rattle.txn_model.proofs.Keys.{same_key, key_itself}
use Rattle.txn_law.specs.Lone.{put_of, lone_plan, PutsAlone}
use Rattle.txn_law.proofs.Rows.{only_key}

lone_writes : (k : Key) (v : List ℕ) → (lone_plan k v).writes k ≡ Some (put_of v)
lone_writes k v = rw (key_itself k) refl

lone_content : (m : Mutation) (k : Key) (v : List ℕ) (x : Content) → m.op ≡ Put → m.key ≡ k → m.value ≡ v → content_of m ≡ Some x → (lone_plan k v).writes m.key ≡ Some x
lone_content m k v x a b c h =
    let put : content_of m ≡ Some (put_of m.value) = rw a refl in
    subst (λ q. (lone_plan k v).writes q ≡ Some x) (sym b) (lone_writes k v ∙ (ap (λ w. Some (put_of w)) (sym c) ∙ (sym put ∙ h)))

pub lone_prewrite : (k : Key) (v : List ℕ) (es : List Event) (r : PrewriteRequest) → r.primary_lock ≡ k → PutsAlone r.mutations k v → r.use_async_commit ≡ false → r.try_one_pc ≡ false → WasGiven es r.start_version × WasGiven es r.for_update_ts → PrewriteLicence (lone_plan k v) es r
lone_prewrite k v es r p h async once given = record {
  primary = p;
  planned = λ m a. planned m (subst (λ ms. IsAmong ms m) h.is a);
  once = subst AreDistinct (sym h.is) ((λ n a. absurd a), tt);
  way = async;
  named = λ ks w. absurd (cc);
  at_once = λ e. absurd (cc);
  given = given;
  above = λ f. absurd (elim f [ inl e ↦ absurd (cc) | inr e ↦ absurd (cc) ]);
  unrolled = λ w. absurd (cc);
}
  where
    op_here : (lone_plan k v).ops h.mutation.key ≡ Some h.mutation.op
    op_here = let a = h.key in let b = h.op in let c = key_itself k in rw (a, b, c) refl

    planned : (m : Mutation) → IsAmong (h.mutation ∷ []) m → IsPlanned (lone_plan k v) m
    planned m (inl e) = subst (IsPlanned (lone_plan k v)) e (op_here, λ x g. lone_content h.mutation k v x h.op h.key h.value g)
    planned m (inr e) = absurd e

pub puts_check_nothing : (b : Bool) → (if b then Some Put else None) ≡ Some CheckNotExists → ⊥
puts_check_nothing true e = cc
puts_check_nothing false e = cc

-- a Prewrite that was answered without error holds all that is written
pub lone_ready : (k : Key) (v : List ℕ) (es : List Event) (s : ℕ) (t : Ticket) (r : PrewriteRequest) (o : PrewriteResponse) → Has es (Took t (Prewrite r) (reply.Prewrite o)) → IsWithoutError (reply.Prewrite o) → r.start_version ≡ s → PutsAlone r.mutations k v → r.try_one_pc ≡ false → AllAcknowledged (lone_plan k v) es s
lone_ready k v es s t r o taken fine start h once = record {
  locked = λ q x w. record { ticket = t; request = r; response = o; taken = taken; fine = fine; start = start; locks = locks q x (key_eq k q) refl w; locking = once };
  checked = λ q w. absurd (puts_check_nothing (key_eq k q) w);
}
  where
    put : content_of h.mutation ≡ Some (put_of h.mutation.value)
    put = let a = h.op in rw a refl

    here : IsAmong r.mutations h.mutation
    here = subst (λ ms. IsAmong ms h.mutation) (sym h.is) (inl refl)

    locks : (q : Key) (x : Content) (b : Bool) → key_eq k q ≡ b → (if b then Some (put_of v) else None) ≡ Some x → LocksKey r.mutations q
    locks q x true e f = (h.mutation, put_of h.mutation.value, here, h.key ∙ same_key k q e, put)
    locks q x false e f = absurd (cc)

pub lone_commit : (k : Key) (v : List ℕ) (es : List Event) (r : CommitRequest) → r.keys ≡ (k ∷ []) → PrimaryCommitLicence (lone_plan k v) es r.start_version r.commit_version → CommitLicence (lone_plan k v) es r
lone_commit k v es r e l = inl (inl refl, λ q h. inl (only_key k q (subst (λ ks. has_key ks q ≡ true) e h), l))
