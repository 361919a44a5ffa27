-- How names order: by their parts, byte strings by bytes, numbers by value.
use Rattle.std.specs.Prelude.{ℕ, List}
use Rattle.std.specs.Ordering.{nat_cmp, on, then_cmp}
use Rattle.std.specs.Cmp.Lexicographic.{slice_cmp}
use Rattle.std.specs.declared.cmp.Ordering.{Ordering}
use Rattle.hm_names.specs.Region.{Region}
use Rattle.hm_names.specs.Server.{Server}
use Rattle.hm_names.specs.declared.nonce.Nonce.{Nonce}
use Rattle.hm_names.specs.declared.pid.Pid.{Pid}
use Rattle.hm_names.specs.declared.table.TableName.{TableName}

-- by the first byte that differs; a front of the other comes first
abbrev pub bytes_cmp : List ℕ → List ℕ → Ordering
bytes_cmp = slice_cmp nat_cmp

-- by namespace, then by qualifier
abbrev pub table_cmp : TableName → TableName → Ordering
table_cmp = then_cmp (on (λ t. t.ns) bytes_cmp) (on (λ t. t.qualifier) bytes_cmp)

-- by table, then by number
abbrev pub region_cmp : Region → Region → Ordering
region_cmp = then_cmp (on (λ r. r.table) table_cmp) (on (λ r. r.id) nat_cmp)

-- by host, then by port, then by start code
abbrev pub server_cmp : Server → Server → Ordering
server_cmp = then_cmp (on (λ s. s.host) bytes_cmp) (then_cmp (on (λ s. s.port) nat_cmp) (on (λ s. s.start) nat_cmp))

-- by group, then by number
abbrev pub nonce_cmp : Nonce → Nonce → Ordering
nonce_cmp = then_cmp (on (λ n. n.group) nat_cmp) (on (λ n. n.number) nat_cmp)

-- by number
abbrev pub pid_cmp : Pid → Pid → Ordering
pid_cmp = on (λ p. p.0) nat_cmp
