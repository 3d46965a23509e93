-- Who hears, and that nobody does.
use Rattle.std.proofs.Common.{◌≡◌, ◌⊎◌, inl, inr, ℕ, ◌-◌, ◌<◌, ◌≤◌, Bool, true, false, nat_eq, List, [], ◌∷◌, ◌++◌, length, get_or, set, Some, None, refl, sym, ap, ◌∙◌, subst, arith}
use Rattle.std.proofs.lemmas.Bool.Decides.{nat_tests}
use Rattle.std.proofs.lemmas.List.{length-map}
use Rattle.std.specs.List.{Any}
use Rattle.txn_core.specs.Transaction.{Standing}
use Rattle.txn_client.specs.declared.client_call.ClientCall.{ClientCall}
use Rattle.txn_commit.specs.declared.secondary_job.SecondaryJob.{SecondaryJob}
use Rattle.txn_side.specs.Sight.{Group, GroupsGo, IsAsk, Stand, stand_at}
use Rattle.txn_side.specs.Sight.Stand.{HasBegun}
use Rattle.txn_side.specs.declared.turn.Posting.{Posting}
use Rattle.txn_clients.specs.Clients.{crashed_of, groups_of, row_at, sight_of, stands_of}
use Rattle.txn_clients.specs.Groups.{group_of}
use Rattle.txn_clients.specs.Matching.{IsLine}
use Rattle.txn_clients.specs.Rows.{Pd, stand_of}
use Rattle.txn_clients.specs.Waiting.{NoneHears}
use Rattle.txn_clients.specs.declared.client_state.ClientState.{ClientState}
use Rattle.txn_clients.specs.declared.clients.Clients.{Clients}
use Rattle.txn_clients.specs.declared.row.Row.{Row}
use Rattle.txn_clients.specs.declared.row.Row.TheVariants as row
use Rattle.txn_clients.proofs.Groups.{any_behind, sent_in}
use Rattle.txn_clients.proofs.Stands.{waited}
use Rattle.txn_clients.proofs.Tables.{stand_of_line}
use Rattle.txn_clients.proofs.Telling.{begun_line, stands_at}

-- no transaction stands where there is no line
pub not_begun : (stands : List Stand) (x c m : ℕ) → (x ≡ 0) ⊎ (length stands < x) → stand_at stands x ≡ HasBegun c m → ⊥
not_begun stands x c m (inl z) e = let one = (begun_line stands x c m e).first in omega (arith, one, z)
not_begun stands x c m (inr l) e = let last = (begun_line stands x c m e).last in omega (arith, last, l)

module _ {P : Type 0} where
  -- or one that waits for another line
  pub waits_not : (rows : List (Row P)) (x line c m d : ℕ) (t : Standing P) → 1 ≤ x → row_at rows (x - 1) ≡ row.Begun c t m → nat_eq m line ≡ false → stand_at (stands_of rows) x ≡ HasBegun d line → ⊥
  waits_not rows x line c m d t one e test k = unequal (waited c d m line (ap stand_of (sym e) ∙ sym (stand_of_line rows x one) ∙ k))
    where
      unequal : m ≡ line → ⊥
      unequal f = two (sym test ∙ itself)
        where
          itself : nat_eq m line ≡ true
          itself = grind (arith, nat_tests, f)

          two : false ≡ true → ⊥
          two q = cc

  begun_row : (r : Row P) (c m : ℕ) → stand_of r ≡ HasBegun c m → ((d : ℕ) (t : Standing P) (i : ℕ) → r ≡ row.Begun d t i → ⊥) → ⊥
  begun_row row.Plain c m e h = absurd (cc)
  begun_row (row.Client d) c m e h = absurd (cc)
  begun_row (row.Asking d b call) c m e h = absurd (cc)
  begun_row (row.Begun d t i) c m e h = h d t i refl
  begun_row (row.Calling d x b) c m e h = absurd (cc)
  begun_row (row.Past d) c m e h = absurd (cc)
  begun_row (row.Working d job) c m e h = absurd (cc)

  pub other_not : (rows : List (Row P)) (x line c : ℕ) (r : Row P) → 1 ≤ x → r ≡ row_at rows (x - 1) → ((d : ℕ) (t : Standing P) (i : ℕ) → r ≡ row.Begun d t i → ⊥) → stand_at (stands_of rows) x ≡ HasBegun c line → ⊥
  other_not rows x line c r one e h k = begun_row r c line (ap stand_of e ∙ sym (stand_of_line rows x one) ∙ k) h

  -- nobody hears for what is no call and no job
  none_for : (stands : List Stand) (line : ℕ) (r : Row P) → ((c : ℕ) (b : Bool) (call : ClientCall Pd P) → r ≡ row.Asking c b call → ⊥) → ((c : ℕ) (job : SecondaryJob P) → r ≡ row.Working c job → ⊥) → ((c x : ℕ) (b : Bool) → r ≡ row.Calling c x b → ⊥)
      → NoneHears stands line (stand_of r)
  none_for stands line row.Plain f g h = tt
  none_for stands line (row.Client c) f g h = tt
  none_for stands line (row.Asking c b call) f g h = absurd (f c b call refl)
  none_for stands line (row.Begun c t m) f g h = tt
  none_for stands line (row.Calling c x b) f g h = absurd (h c x b refl)
  none_for stands line (row.Past c) f g h = tt
  none_for stands line (row.Working c job) f g h = absurd (g c job refl)

  pub none_hears : (rows : List (Row P)) (line : ℕ) (r : Row P) → IsLine (stands_of rows) line → r ≡ row_at rows (line - 1) → ((c : ℕ) (b : Bool) (call : ClientCall Pd P) → r ≡ row.Asking c b call → ⊥) → ((c : ℕ) (job : SecondaryJob P) → r ≡ row.Working c job → ⊥) → ((c x : ℕ) (b : Bool) → r ≡ row.Calling c x b → ⊥)
      → NoneHears (stands_of rows) line (stand_at (stands_of rows) line)
  none_hears rows line r is e f g h = subst (NoneHears (stands_of rows) line) (ap stand_of e ∙ sym (stand_of_line rows line is.first)) (none_for (stands_of rows) line r f g h)

  pub call_unheard : (rows : List (Row P)) (line c x : ℕ) (b : Bool) → IsLine (stands_of rows) line → row_at rows (line - 1) ≡ row.Calling c x b → ((d : ℕ) → stand_at (stands_of rows) x ≡ HasBegun d line → ⊥) → NoneHears (stands_of rows) line (stand_at (stands_of rows) line)
  call_unheard rows line c x b is e h = subst (NoneHears (stands_of rows) line) (sym (stands_at rows line (row.Calling c x b) is e)) h

  -- a client's request goes out, and is posted
  pub group_posted : (s t : Clients P) (client : ℕ) (h : Group) (ps qs : List Posting) (p : Posting) → qs ≡ ps ++ p ∷ [] → IsAsk h p → client < length (crashed_of s) → groups_of t ≡ set (groups_of s) client (Some h) → GroupsGo qs (sight_of s) (sight_of t)
  group_posted s t client h ps qs p pushed ask there groups g (c, e) = elim (sent_in (groups_of s) client h g within (c, ap (λ gs. get_or gs c None) (sym groups) ∙ e)) [
    | inl o ↦ inl o
    | inr same ↦ inr (subst (Any (IsAsk g)) (sym pushed) (any_behind (IsAsk g) ps (p ∷ []) (0, p, omega arith, refl, subst (λ x. IsAsk x p) same ask)))
  ]
    where
      within : client < length (groups_of s)
      within = let short = length-map s.clients.items (λ (c : ClientState). c.crashed) in let long = length-map s.clients.items group_of in omega (arith, there, short, long)
