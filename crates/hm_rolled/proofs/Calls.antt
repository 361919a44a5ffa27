-- Calls that two journals which read alike both tell.
use Rattle.std.proofs.Common.{◌≡◌, ℕ, ◌<◌, ◌≤◌, Some, ap, sym, ◌∙◌, arith}
use Rattle.std.proofs.lemmas.Option.{same_Some}
use Rattle.hm_names.specs.Region.{Region}
use Rattle.hm_names.specs.Server.{Server}
use Rattle.hm_data.specs.declared.call.Verb.{Verb}
use Rattle.hm_model.specs.Actors.{Actor}
use Rattle.hm_model.specs.Journal.{Past}
use Rattle.hm_model.specs.Procedures.{offset}
use Rattle.hm_model.specs.Reports.{call_if, call_of, last_call, peer_if, peer_of, verb_of}
use Rattle.hm_model.specs.Rules.{IsLegal}
use Rattle.hm_model.specs.Tree.{node_of}
use Rattle.hm_rebase.specs.Alike.{Alike}
use Rattle.hm_rebase.proofs.Bounds.{above_base}
use Rattle.hm_world_model.specs.Outside.{Outside}
use Rattle.hm_world_model.specs.Safe.{CallsTo, Runs}
use Rattle.hm_world_model.proofs.Facts.{last_about, node_called, region_peer}
use Rattle.hm_world_model.proofs.Progress.{earlier_ended}

-- the last call of a region is to a server
last_to : (J : Past) → IsLegal J → (r : Region) (p : ℕ) → last_call J r ≡ Some p → (s : Server) × CallsTo J p r s
last_to J legal r p last =
    let about = last_about J legal r p last in
    let node = node_called J legal p about.0 about.1 in
    let server = region_peer node.0.args about.0 r node.2 about.2 in
    (server.0, (about.0, about.1, about.2, node.3 ∙ ap Some server.1))

-- calls about a region have no later numbers than its last
last_is_last : (J : Past) → IsLegal J → (r : Region) (p : ℕ) (s : Server) → CallsTo J p r s → (last : ℕ) × (last_call J r ≡ Some last) × (p ≤ last)
last_is_last J legal r p s to = (let q = earlier_ended J legal p r s to in (q.0, q.1, q.2))

-- each call of a journal is above those that its base stands for
pub new_call : (K : Past) → IsLegal K → (p : ℕ) (verb : Verb) → verb_of K p ≡ Some verb → offset K < p
new_call K legal p verb is = (let v = node_called K legal p verb is in above_base K legal p v.0 v.1)

module _ (J K : Past) (legal_J : IsLegal J) (legal_K : IsLegal K) (alike : Alike J K) where
  pub same_peer : (p : ℕ) → offset K < p → peer_of J p ≡ peer_of K p
  same_peer p high = (let same = alike.same p high in ap (λ n. peer_if n (verb_of J p)) same.node ∙ ap (peer_if (node_of K p)) same.verb)

  pub same_call : (p : ℕ) → offset K < p → call_of J p ≡ call_of K p
  same_call p high =
      let same = alike.same p high in
      ap (λ peer. call_if p peer (verb_of J p)) (same_peer p high) ∙ ap (call_if p (peer_of K p)) same.verb

  pub calls_back : (p : ℕ) (r : Region) (s : Server) → CallsTo K p r s → CallsTo J p r s
  calls_back p r s to =
      let high = new_call K legal_K p to.0 to.1 in
      let same = alike.same p high in
      (to.0, same.verb ∙ to.1, to.2, same_peer p high ∙ to.3)

  calls_on : (p : ℕ) (r : Region) (s : Server) → offset K < p → CallsTo J p r s → CallsTo K p r s
  calls_on p r s high to =
      let same = alike.same p high in
      (to.0, sym same.verb ∙ to.1, to.2, sym (same_peer p high) ∙ to.3)

  -- the last call of a region is the same, where it is new
  pub last_back : (r : Region) (q : ℕ) → last_call K r ≡ Some q → last_call J r ≡ Some q
  last_back r q last =
      let own = last_to K legal_K r q last in
      let high = new_call K legal_K q own.1.0 own.1.1 in
      let later = last_is_last J legal_J r q own.0 (calls_back q r own.0 own.1) in
      let to = last_to J legal_J r later.0 later.1 in
      let most = last_is_last K legal_K r later.0 to.0 (calls_on later.0 r to.0 (above high later.2) to.1) in
      later.1 ∙ ap Some (equal later.2 most.2 (same_Some most.0 q (sym most.1 ∙ last)))
    where
      above : {n : ℕ} → offset K < q → q ≤ n → offset K < n
      above low le = omega (arith, low, le)

      equal : {n m : ℕ} → q ≤ n → n ≤ m → m ≡ q → n ≡ q
      equal low high is = omega (arith, low, high, is)

  pub last_on : (r : Region) (q : ℕ) → last_call J r ≡ Some q → offset K < q → last_call K r ≡ Some q
  last_on r q last high =
      let to = last_to J legal_J r q last in
      let most = last_is_last K legal_K r q to.0 (calls_on q r to.0 high to.1) in
      most.1 ∙ sym (sym last ∙ last_back r most.0 most.1)

  -- who runs and isn't fenced is the same
  pub runs_back : (o : Outside) (s : Server) (a : Actor) → Runs K o s a → Runs J o s a
  runs_back o s a run = (run.0, alike.fenced s ∙ run.1)
