-- Tables of lines.
use Rattle.std.proofs.Common.{Vec, Global, ◌≡◌, ℕ, List, [], ◌∷◌, ◌++◌, Result, Ok, Err, IfOk, length, map, string_bytes, refl, ap, ◌∙◌}
use Rattle.hm_names.specs.Region.{Region}
use Rattle.hm_names.specs.Server.{Server}
use Rattle.hm_data.specs.declared.place.Place.{Place}
use Rattle.hm_model.specs.Image.{counted}
use Rattle.hm_model.specs.Journal.{Past}
use Rattle.hm_model.specs.Loads.{load_in}
use Rattle.hm_model.specs.Places.{load}
use Rattle.hm_model.specs.Standings.{standing_of}
use Rattle.hm_show.specs.Lines.{AreLines}
use Rattle.hm_show.specs.Servers.{line_of, lines_by, server_line}
use Rattle.hm_show.specs.Tables.{Line, head_text, table_of}
use Rattle.hm_show.specs.declared.lines.Lines.{Lines}

-- what is made of the lines is the table of them
pub table_said : {E : Type 0} (name : List ℕ) (past : Past) (entries : ℕ) (are lines : List Line) (kept : Lines) (r : Result (Vec ℕ Global) E) → entries ≡ counted past → AreLines are kept → are ≡ lines
    → IfOk r (λ table. table.items ≡ head_text name entries kept.count ++ string_bytes kept.text) → IfOk r (λ table. table.items ≡ table_of name past lines)
table_said name past entries are lines kept (Ok table) count is same said =
    said
    ∙ ap (λ n. head_text name n kept.count ++ string_bytes kept.text) count
    ∙ ap (λ n. head_text name (counted past) n ++ string_bytes kept.text) is.count
    ∙ ap (λ t. head_text name (counted past) (length are) ++ t) is.text
    ∙ ap (table_of name past) same
table_said name past entries are lines kept (Err e) count is same said = tt

-- servers and their loads, by the places of a journal
pub lines_told : (past : Past) (places : List (Region × Place)) → ((server : Server) → load_in places server ≡ load past server)
    → (servers : List Server) → lines_by places (map (λ server. (server, standing_of past server)) servers) ≡ map (server_line past) servers
lines_told past places loads [] = refl
lines_told past places loads (server ∷ servers) =
    ap (λ n. line_of server (standing_of past server) n ∷ lines_by places (map (λ s. (s, standing_of past s)) servers)) (loads server)
    ∙ ap (λ l. server_line past server ∷ l) (lines_told past places loads servers)
