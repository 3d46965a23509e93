-- What a client is when it is new, and what it lends.
use Rattle.std.specs.Prelude.{◌≡◌, ℕ, true, false}
use Rattle.std.specs.Borrow.{Lends, Fml, MutBor, RattleType}
use Rattle.txn_region.specs.Cache.{empty}
use Rattle.txn_region.specs.contracts.pd_rpc_client.PdRpcClient.{the_row as pd_row}
use Rattle.txn_region.specs.declared.pd_rpc_client.PdRpcClient.{PdRpcClient}
use Rattle.txn_client.specs.contracts.client.Client.{the_row}
use Rattle.txn_client.specs.declared.client.Client.{Client}

-- It knows no region. It was connected just now to the cluster of id 0, and encodes keys.
pub record IsNewPd {Cod : Type 0} (codec : Cod) (now : ℕ) (pd : PdRpcClient Cod) : Type 0 where
  pub connection : pd.pd ≡ record { cluster = record { id = 0 }; last_connected = now; connecting = false }
  pub placement : pd.placement ≡ record { cache = empty; encodes = true }
  pub codec_is : pd.codec ≡ codec

-- the client has what was last written behind the reference
module _ (Cod : RattleType) (client : MutBor (Client Cod.Denot)) where
  abbrev pub lends_pd : MutBor (PdRpcClient Cod.Denot) → Fml
  lends_pd lent = Lends (the_row Cod) (pd_row Cod) client lent (λ pd. record client.now { pd = pd })
