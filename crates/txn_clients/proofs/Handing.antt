-- What is handed on, in its order.
use Rattle.std.proofs.Common.{◌≡◌, ◌≢◌, ℕ, ◌+◌, false, List, [], ◌∷◌, ◌++◌, refl, sym, ap, ◌∙◌, append-nil, append_assoc}
use Rattle.txn_kv.specs.declared.outbox.Errand.TheVariants.{Ask, Send, Sleep}
use Rattle.txn_kv.specs.declared.request.Request.{Request}
use Rattle.txn_kv.specs.declared.ticket.Target.{Target}
use Rattle.txn_history.specs.Posted.{Errand}
use Rattle.txn_side.specs.Sight.{next_at, with_next}
use Rattle.txn_side.specs.declared.turn.Posting.{Posting}
use Rattle.txn_side.specs.declared.turn.Posting.TheVariants as postings
use Rattle.txn_tso.specs.declared.asker.Asker.{Asker}
use Rattle.txn_clients.specs.Arising.{HandsAll, askers_of, postings_of}
use Rattle.txn_clients.specs.Clients.{nexts_of, sight_of}
use Rattle.txn_clients.specs.Matching.{IsLine}
use Rattle.txn_clients.specs.Waiting.{AsksOne, Book, book_at}
use Rattle.txn_clients.specs.declared.clients.Clients.{Clients}
use Rattle.txn_clients.proofs.Settling.{books_same}
use Rattle.txn_clients.proofs.Sounding.{next_other}

pub postings_append : (line : ℕ) (rs qs : List Errand) → postings_of line (rs ++ qs) ≡ postings_of line rs ++ postings_of line qs
postings_append line [] qs = refl
postings_append line (Send n to r ∷ rs) qs = ap (λ (ps : List Posting). postings.Send (record { line = line; beat = false; number = n }) to r [] ∷ ps) (postings_append line rs qs)
postings_append line (Sleep n ms ∷ rs) qs = ap (λ (ps : List Posting). postings.Sleep (record { line = line; beat = false; number = n }) ∷ ps) (postings_append line rs qs)
postings_append line (Ask n ∷ rs) qs = postings_append line rs qs

pub askers_append : (line : ℕ) (rs qs : List Errand) → askers_of line (rs ++ qs) ≡ askers_of line rs ++ askers_of line qs
askers_append line [] qs = refl
askers_append line (Send n to r ∷ rs) qs = askers_append line rs qs
askers_append line (Sleep n ms ∷ rs) qs = askers_append line rs qs
askers_append line (Ask n ∷ rs) qs = ap (λ (xs : List Asker). record { line = line; beat = false; ask = n } ∷ xs) (askers_append line rs qs)

-- two parts of a list, put behind a third
behind_two : {X : Type 0} (xs ys zs us vs ws : List X) → us ≡ xs ++ ys → vs ≡ us ++ zs → ws ≡ ys ++ zs → vs ≡ xs ++ ws
behind_two xs ys zs us vs ws e f g = f ∙ ap (λ ts. ts ++ zs) e ∙ append_assoc xs ys zs ∙ ap (λ ts. xs ++ ts) (sym g)

module _ {P : Type 0} where
  pub all_nothing : (line client : ℕ) (all : List Errand) (ps : List Posting) (s : Clients P) → HandsAll line client all all ps ps s s
  all_nothing line client all ps s = record {
    done = [];
    all_are = refl;
    posted = sym (append-nil ps);
    queue = sym (append-nil (book_at s client).queue);
    nexts = λ n apart. refl;
  }

  pub all_then : (line client : ℕ) (all mid left : List Errand) (ps qs rs : List Posting) (s m t : Clients P) → HandsAll line client all mid ps qs s m → HandsAll line client mid left qs rs m t → HandsAll line client all left ps rs s t
  all_then line client all mid left ps qs rs s m t f g = record {
    done = f.done ++ g.done;
    all_are = f.all_are ∙ ap (λ es. f.done ++ es) g.all_are ∙ sym (append_assoc f.done g.done left);
    posted = behind_two ps (postings_of line f.done) (postings_of line g.done) qs rs (postings_of line (f.done ++ g.done)) f.posted g.posted (postings_append line f.done g.done);
    queue = behind_two (book_at s client).queue (askers_of line f.done) (askers_of line g.done) (book_at m client).queue (book_at t client).queue (askers_of line (f.done ++ g.done)) f.queue g.queue (askers_append line f.done g.done);
    nexts = λ n apart. g.nexts n apart ∙ f.nexts n apart;
  }

  same_queue : (s t : Clients P) (client : ℕ) → t.clients ≡ s.clients → (book_at t client).queue ≡ (book_at s client).queue ++ []
  same_queue s t client clients = ap (λ (b : Book). b.queue) (books_same s t clients client) ∙ sym (append-nil (book_at s client).queue)

  raised_next : (s t : Clients P) (line : ℕ) → IsLine (sight_of s).stands line → nexts_of t ≡ with_next (nexts_of s) line → (n : ℕ) → n ≢ line → next_at (nexts_of t) n ≡ next_at (nexts_of s) n
  raised_next s t line is nexts n apart = ap (λ ns. next_at ns n) nexts ∙ next_other (nexts_of s) line n (next_at (nexts_of s) line + 1) is.first apart

  pub all_sent : (line client n : ℕ) (whom : Target) (x : Request) (rest : List Errand) (ps qs : List Posting) (s t : Clients P) → IsLine (sight_of s).stands line
      → qs ≡ ps ++ postings.Send (record { line = line; beat = false; number = n }) whom x [] ∷ [] → nexts_of t ≡ with_next (nexts_of s) line → t.clients ≡ s.clients
      → HandsAll line client (Send n whom x ∷ rest) rest ps qs s t
  all_sent line client n whom x rest ps qs s t is posted nexts clients = record {
    done = Send n whom x ∷ [];
    all_are = refl;
    posted = posted;
    queue = same_queue s t client clients;
    nexts = raised_next s t line is nexts;
  }

  pub all_slept : (line client n ms : ℕ) (rest : List Errand) (ps qs : List Posting) (s t : Clients P) → IsLine (sight_of s).stands line
      → qs ≡ ps ++ postings.Sleep (record { line = line; beat = false; number = n }) ∷ [] → nexts_of t ≡ with_next (nexts_of s) line → t.clients ≡ s.clients
      → HandsAll line client (Sleep n ms ∷ rest) rest ps qs s t
  all_slept line client n ms rest ps qs s t is posted nexts clients = record {
    done = Sleep n ms ∷ [];
    all_are = refl;
    posted = posted;
    queue = same_queue s t client clients;
    nexts = raised_next s t line is nexts;
  }

  pub all_asked : (line client k : ℕ) (rest : List Errand) (ps : List Posting) (s t : Clients P) → AsksOne client (record { line = line; beat = false; ask = k }) s t → nexts_of t ≡ nexts_of s → HandsAll line client (Ask k ∷ rest) rest ps ps s t
  all_asked line client k rest ps s t asks nexts = record {
    done = Ask k ∷ [];
    all_are = refl;
    posted = sym (append-nil ps);
    queue = ap (λ (b : Book). b.queue) asks.book;
    nexts = λ n apart. ap (λ ns. next_at ns n) nexts;
  }
