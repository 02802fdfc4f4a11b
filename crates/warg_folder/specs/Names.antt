-- The names of a log's files.
use Rattle.std.specs.Prelude.{ℕ, nat_eq, Bool, not, ◌&&◌, ◌||◌, List, ◌++◌, codes}
use Rattle.std.specs.Cmp.Lexicographic.{pointwise}
use Rattle.std.specs.List.{starts_with}

-- The checkpoint that is served.
abbrev pub checkpoint : List ℕ
checkpoint = codes "checkpoint"

-- The newest checkpoint's text, the log's own.
abbrev pub state : List ℕ
state = codes ".log/state"

-- The text of a commit that stands and isn't done yet.
abbrev pub mark : List ℕ
mark = codes ".log/staged/state"

-- Where a file stands before its commit does.
abbrev pub staged : List ℕ → List ℕ
staged n = codes ".log/staged/" ++ n

-- The name is one of a commit's, before it is done.
abbrev pub is_staged : List ℕ → Bool
is_staged n = starts_with nat_eq n (codes ".log/staged/")

-- The name is the log's own. A reader looks at no such name.
abbrev pub is_own : List ℕ → Bool
is_own n = starts_with nat_eq n (codes ".log/")

-- The name is one of a tile or of an entry bundle.
abbrev pub is_tile : List ℕ → Bool
is_tile n = starts_with nat_eq n (codes "tile/")

-- The name is one of a page.
abbrev pub is_page : List ℕ → Bool
is_page n = starts_with nat_eq n (codes "map/")

-- The name of the page with this path below `map/`.
abbrev pub page_name : List ℕ → List ℕ
page_name n = codes "map/" ++ n

-- The name is one at which a commit puts files.
abbrev pub is_served : List ℕ → Bool
is_served n = is_tile n || is_page n

-- The name is one of a log's files.
abbrev pub is_log_file : List ℕ → Bool
is_log_file n = is_served n || (is_own n || pointwise nat_eq n checkpoint)

-- The lock of the one who writes.
abbrev pub lock : List ℕ
lock = codes ".log/lock"

-- The name is one of a log's files, besides its lock: where such a file is, no log is made.
abbrev pub is_of_log : List ℕ → Bool
is_of_log n = is_log_file n && not (pointwise nat_eq n lock)
