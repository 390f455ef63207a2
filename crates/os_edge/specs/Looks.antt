-- Which files a device takes as its areas, by what is looked at of them before they are opened. One that is missing has no look.
use Rattle.std.specs.Prelude.{Bool, true, false, not, ◌&&◌, ◌||◌, ◌==◌, Option, None, Some, is_some}
use Rattle.os_edge.specs.declared.looks.Look.{Look}

-- it is missing, or a regular file with one name
abbrev pub is_plain : Option Look → Bool
is_plain None = true
is_plain (Some look) = look.is_regular && look.names == 1

-- both names lead to one file
abbrev pub is_same : Option Look → Option Look → Bool
is_same (Some one) (Some other) = one.device == other.device && one.inode == other.inode
is_same one other = false

abbrev pub has_bytes : Option Look → Bool
has_bytes None = false
has_bytes (Some look) = not (look.len == 0)

-- Each is plain and a file of its own. The selector is there where a slot has bytes: it is made before a slot is written, and the
-- directory is synced in between, so that no crash takes it away.
abbrev pub are_areas : Option Look → Option Look → Option Look → Bool
are_areas slot0 slot1 selector =
    (is_plain slot0 && is_plain slot1 && is_plain selector) &&
    not (is_same slot0 slot1 || is_same slot0 selector || is_same slot1 selector) &&
    (is_some selector || not (has_bytes slot0 || has_bytes slot1))
