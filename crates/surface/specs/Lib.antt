-- What a host holds, the exported calls by the names of the session's, and a host's log beside a session's.
pub mod Hosting
pub mod Following
