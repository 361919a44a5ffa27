-- What the links' fields hold.
use Rattle.std.specs.Prelude.{◌≡◌, ◌<◌, ℕ, ◌+◌, ◌++◌, List, length, Option, slice_get, vec_capacity}
use Rattle.hm_lists.specs.declared.links.Links.{Links}
use Rattle.hm_lists.specs.Chains.{Chains, IsLinked, list_at, lists_of, walk}

abbrev pub chains_of : Links → Chains
chains_of links = record { nodes = links.nodes.items; ends = links.ends.items }

-- the lists that the links make
abbrev pub held : Links → List (List ℕ)
held links = lists_of (chains_of links)

abbrev pub AreLinked : Links → Type 0
AreLinked links = IsLinked (chains_of links) (held links)

-- for how many nodes and lists there is memory
abbrev pub room_of : Links → ℕ
room_of links = vec_capacity links.nodes + vec_capacity links.ends

-- the nodes from one on, to the end of its list
abbrev pub rest_from : Chains → Option ℕ → List ℕ
rest_from s node = walk (length s.nodes) s node

-- a place in a list that the chains link, before a node or after the last
pub record IsOnWay (s : Chains) (node : Option ℕ) : Type 0 where
  pub linked : IsLinked s (lists_of s)
  pub list : ℕ
  pub front : List ℕ
  pub within : list < length (lists_of s)
  pub cut : list_at (lists_of s) list ≡ front ++ rest_from s node
  pub first : node ≡ slice_get (rest_from s node) 0
